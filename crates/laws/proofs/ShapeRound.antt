-- Writing a shape and reading it back: "for every shape: its written text, if short enough, reads back as the same shape".
-- Assumes nothing.
use Rattle.std.specs.Prelude.{ℕ, suc, ◌+◌, ◌≤◌, ◌≡◌, refl, true, ◌&&◌, List, ◌∷◌, ◌++◌, length}
use Rattle.std.proofs.Common.{arith, add-zero, sym, subst, append_assoc}
use Rattle.definitions.specs.declared.Limits.{Limits}
use Rattle.definitions.specs.Bytes.{Bytes, bytes, look, between}
use Rattle.definitions.specs.Outcome.{ok}
use Rattle.definitions.specs.Tokens.{opening, lex, tokens, ended, opens, or_end, read_tokens, border_table}
use Rattle.definitions.specs.Shape.{Kind, all_kinds, among, Shape, shape, Element, no_list, list_of, Record, Fields, no_fields, field}
use Rattle.definitions.specs.Shape.{has, has_list, has_rec, behind, ascending, forms, forms_element, forms_record, forms_fields, levels}
use Rattle.definitions.specs.Shape.{levels_element, levels_record, levels_fields, ascending_element, ascending_record, ascending_fields}
use Rattle.definitions.specs.ShapeText.{Parts, no_parts, with_element, with_member, Around, text_end, as_element, as_member, State, want}
use Rattle.definitions.specs.ShapeText.{shape_open, shape_word, kind_word, member_open, put, depth, fields_onto, name_fits, finished}
use Rattle.definitions.specs.ShapeText.{read_shape, write_kinds, new_line, write, write_element, write_record, write_fields, write_shape}
use Rattle.laws.specs.Bools.{and_left, and_right}
use Rattle.laws.specs.Rfc3629.{UTF8Octets}
use Rattle.laws.specs.Good.{GoodShape, good_shape, GoodElement, good_no_list, good_list_of, GoodRecord}
use Rattle.laws.specs.Good.{good_no_rec, good_rec_of, GoodFields, good_no_fields, good_field}
use Rattle.laws.proofs.LexLaws.{bordered_space, bordered_close}
use Rattle.laws.proofs.RoundReads.{Reads, Steps, reads_nothing, reads_then, reads_from, reads_space, reads_new_line}
use Rattle.laws.proofs.RoundReads.{reads_open, reads_open_form, reads_close, reads_word, reads_text}
use Rattle.laws.proofs.RoundKinds.{picks, with_kinds, among_kinds, bordered_kinds, reads_all_kinds, fields_in, parts_of, build_back}
use Rattle.laws.proofs.RoundPieces.{room, shape_is_word, member_is_word, steps_shape, steps_member, steps_name, Behind, behind_kinds}
use Rattle.laws.proofs.RoundPieces.{behind_element, steps_element, steps_member_shape, steps_member_close, steps_member_open, steps_shape_close}
use Rattle.laws.proofs.RoundPieces.{write_split, fields_split, bordered_element, bordered_record, follows, follows_behind, follows_first}

-- ---- reading what was written

reads_count
    : {l : Limits} {n m k : ℕ} {q q₁ : State} {s r : Bytes} → m ≡ k → Reads l n q s m q₁ r → Reads l n q s k q₁ r
reads_count {l} {n} {m} {k} {q} {q₁} {s} {r} e a = subst (λ i. Reads l n q s i q₁ r) e a

with_fields : Fields → Parts → Parts
with_fields fs p = record { kinds = p.kinds; element = p.element; fields = fs }

-- the parts before the element
kinds_alone : List Kind → Parts
kinds_alone ks = record { kinds = ks; element = no_list; fields = no_fields }

-- the parts before the members
kinds_and_element : List Kind → Element → Parts
kinds_and_element ks e = record { kinds = ks; element = e; fields = no_fields }

-- the last bracket of a shape
reads_shape_close
    : (s : Shape) (l : Limits) (n : ℕ) (o : Around) (q : State) (z : Bytes) → Behind (parts_of s) o q
    → Reads l n q (0x29 ∷ z) n (put s o) z
reads_shape_close s l n o q z b =
    subst (λ x. Reads l n q (0x29 ∷ z) n (put x o) z) (build_back s) (reads_close l n z (steps_shape_close (parts_of s) o q b))

-- the parts of a shape in turn, given how its element and its members are read
shape_parts
    : (s : Shape) (e : Element) (r : Record) (around : ℕ) (l : Limits) (n m k : ℕ) (o : Around) (q q₁ q₂ : State) (z : Bytes)
    → Steps q opening (opens (suc (depth o)) (want (shape_word o))) → suc n ≤ l.values → suc (depth o) ≤ l.nesting
    → Reads
    l
    (suc n)
    (want (kind_word (kinds_alone (picks s)) o))
    (write_element e (suc around) ++ (write_record r (suc around) ++ 0x29 ∷ z))
    m
    q₁
    (write_record r (suc around) ++ 0x29 ∷ z)
    → Reads l m q₁ (write_record r (suc around) ++ 0x29 ∷ z) k q₂ (0x29 ∷ z) → Behind (parts_of s) o q₂
    → Reads
    l
    n
    q
    (bytes "(shape" ++ write_kinds s all_kinds ++ write_element e (suc around) ++ write_record r (suc around) ++ bytes ")" ++ z)
    k
    (put s o)
    z
unfolding no_parts with_kinds kinds_alone
shape_parts s e r around l n m k o q q₁ q₂ z st h d x y b =
    let i₁ = bordered_record r (suc around) (0x29 ∷ z) (bordered_close z) in
    let i₂ = bordered_element e (suc around) (write_record r (suc around) ++ 0x29 ∷ z) i₁ in
    let i₃ = bordered_kinds s all_kinds (write_element e (suc around) ++ (write_record r (suc around) ++ 0x29 ∷ z)) i₂ in
    reads_from
    (write_split s e r around z)
    (reads_then (reads_open_form l n _ st (room l (suc n) (suc (depth o)) h d))
    (reads_then (reads_word l (suc n) (bytes "shape") _ shape_is_word i₃ (steps_shape o))
    (reads_then (reads_all_kinds s no_parts refl o l (suc n) _ i₂)
    (reads_then x
    (reads_then y
    (reads_shape_close s l k o q₂ z b))))))

-- a member and those behind it, given how its shape and they are read
fields_parts
    : (name : Bytes) (s : Shape) (fs : Fields) (around : ℕ) (l : Limits) (n m k : ℕ) (p : Parts) (o : Around) (q q₁ : State)
    (z : Bytes)
    → UTF8Octets name → Behind p o q → name_fits p.fields name ≡ true → among Kind.rec p.kinds ≡ true
    → Reads
    l
    n
    (want (shape_open (as_member p name o)))
    (write s (suc around) ++ (0x29 ∷ write_fields fs around ++ z))
    m
    (put s (as_member p name o))
    (0x29 ∷ write_fields fs around ++ z)
    → Reads l m (want (member_open (with_member name s p) o)) (write_fields fs around ++ z) k q₁ z
    → Reads l n q (write_fields (field name s fs) around ++ z) k q₁ z
unfolding put
fields_parts name s fs around l n m k p o q q₁ z u b w f x y =
    reads_from
    (fields_split name s fs around z)
    (reads_then (reads_new_line around l n q _)
    (reads_then (reads_open l n _ (steps_member_open p o q b f))
    (reads_then (reads_word l n (bytes "member") _ member_is_word (bordered_space _) (steps_member p o))
    (reads_then (reads_space l n _ _)
    (reads_then (reads_text l n name _ u (steps_name p o name w))
    (reads_then (reads_new_line (suc around) l n _ _)
    (reads_then x
    (reads_then (reads_close l m _ (steps_member_close (with_member name s p) o))
    y))))))))

mutual
  unfolding ascending forms levels write has has_list has_rec kinds_alone kinds_and_element with_fields with_element with_member parts_of fields_in
      fields_onto follows put depth

  shape_reads
      : {s : Shape} → GoodShape s → ascending s ≡ true → (around : ℕ) (l : Limits) (n : ℕ) (o : Around) (q : State) (z : Bytes)
      → Steps q opening (opens (suc (depth o)) (want (shape_word o))) → n + forms s ≤ l.values → depth o + levels s ≤ l.nesting
      → Reads l n q (write s around ++ z) (n + forms s) (put s o) z
  shape_reads (good_shape {n = null} {b} {t} {m} {e} {r} ge gr) a around l n o q z st h k =
      let s = shape null b m t e r in
      let h₁ : suc n ≤ l.values = omega arith in
      let k₁ : suc (depth o) ≤ l.nesting = omega arith in
      let h₂ : suc n + forms_element e ≤ l.values = omega arith in
      let k₂ : suc (depth o) + levels_element e ≤ l.nesting = omega arith in
      let h₃ : suc n + forms_element e + forms_record r ≤ l.values = omega arith in
      let k₃ : suc (depth o) + levels_record r ≤ l.nesting = omega arith in
      let c : suc n + forms_element e + forms_record r ≡ n + suc (forms_element e + forms_record r) = omega arith in
      let (q₁, d₁, b₁) =
      element_reads ge (and_left (ascending_element e) (ascending_record r) a) (suc around) l (suc n) (picks s) o
      (write_record r (suc around) ++ 0x29 ∷ z) (among_kinds Kind.list s) h₂ k₂ in
      let (q₂, d₂, b₂) =
      record_reads gr (and_right (ascending_element e) (ascending_record r) a) (suc around) l (suc n + forms_element e)
      (kinds_and_element (picks s) e) o q₁ (0x29 ∷ z) b₁ refl (among_kinds Kind.rec s) h₃ k₃ in
      reads_count c (shape_parts s e r around l n _ _ o q q₁ q₂ z st h₁ k₁ d₁ d₂ b₂)

  element_reads
      : {e : Element} → GoodElement e → ascending_element e ≡ true → (around : ℕ) (l : Limits) (n : ℕ) (ks : List Kind)
      (o : Around) (z : Bytes)
      → among Kind.list ks ≡ has_list e → n + forms_element e ≤ l.values → suc (depth o) + levels_element e ≤ l.nesting
      → (q : State)
      × Reads l n (want (kind_word (kinds_alone ks) o)) (write_element e around ++ z) (n + forms_element e) q z
      × Behind (kinds_and_element ks e) o q
  element_reads good_no_list a around l n ks o z f h k = (
    want (kind_word (kinds_alone ks) o),
    reads_count (sym (add-zero n)) (reads_nothing l n _ z),
    behind_kinds (kinds_alone ks) o f,
  )
  element_reads (good_list_of {s} gs) a around l n ks o z f h k = (
    want (member_open (kinds_and_element ks (list_of s)) o),
    reads_from
        (append_assoc (new_line around) (write s around) z)
        (reads_then (reads_new_line around l n _ (write s around ++ z))
        (shape_reads gs a around l n (as_element (kinds_alone ks) o) _ z (steps_element (kinds_alone ks) o f) h k)),
    behind_element (kinds_and_element ks (list_of s)) o,
  )

  record_reads
      : {r : Record} → GoodRecord r → ascending_record r ≡ true → (around : ℕ) (l : Limits) (n : ℕ) (p : Parts) (o : Around)
      (q : State) (z : Bytes)
      → Behind p o q → p.fields ≡ no_fields → among Kind.rec p.kinds ≡ has_rec r → n + forms_record r ≤ l.values
      → suc (depth o) + levels_record r ≤ l.nesting
      → (q' : State)
      × Reads l n q (write_record r around ++ z) (n + forms_record r) q' z
      × Behind (with_fields (fields_onto (fields_in r) p.fields) p) o q'
  record_reads good_no_rec a around l n p o q z b e f h k =
      (q, reads_count (sym (add-zero n)) (reads_nothing l n q z), b)
  record_reads (good_rec_of {fs} gfs) a around l n p o q z b e f h k =
      fields_reads gfs a around l n p o q z b (subst (λ gs. follows gs fs ≡ true) (sym e) (follows_first fs)) f h k

  fields_reads
      : {fs : Fields} → GoodFields fs → ascending_fields fs ≡ true → (around : ℕ) (l : Limits) (n : ℕ) (p : Parts) (o : Around)
      (q : State) (z : Bytes)
      → Behind p o q → follows p.fields fs ≡ true → among Kind.rec p.kinds ≡ true → n + forms_fields fs ≤ l.values
      → suc (depth o) + levels_fields fs ≤ l.nesting
      → (q' : State)
      × Reads l n q (write_fields fs around ++ z) (n + forms_fields fs) q' z
      × Behind (with_fields (fields_onto fs p.fields) p) o q'
  fields_reads good_no_fields a around l n p o q z b w f h k =
      (q, reads_count (sym (add-zero n)) (reads_nothing l n q z), b)
  fields_reads (good_field {n = name} {s} {fs} u gs gfs) a around l n p o q z b w f h k =
      let a₁ = and_left (ascending s) (behind name fs) (and_left (ascending s && behind name fs) (ascending_fields fs) a) in
      let a₂ = and_right (ascending s) (behind name fs) (and_left (ascending s && behind name fs) (ascending_fields fs) a) in
      let a₃ = and_right (ascending s && behind name fs) (ascending_fields fs) a in
      let h₁ : n + forms s ≤ l.values = omega arith in
      let k₁ : suc (depth o) + levels s ≤ l.nesting = omega arith in
      let h₂ : n + forms s + forms_fields fs ≤ l.values = omega arith in
      let k₂ : suc (depth o) + levels_fields fs ≤ l.nesting = omega arith in
      let c : n + forms s + forms_fields fs ≡ n + (forms s + forms_fields fs) = omega arith in
      let p₁ = with_member name s p in
      let (q₁, d, b₁) =
      fields_reads gfs a₃ around l (n + forms s) p₁ o (want (member_open p₁ o)) z (behind_element p₁ o)
      (follows_behind name s p.fields fs a₂) f h₂ k₂ in
      let x =
      shape_reads gs a₁ (suc around) l n (as_member p name o) (want (shape_open (as_member p name o))) _
      (steps_member_shape (as_member p name o)) h₁ k₁ in
      (q₁, reads_count c (fields_parts name s fs around l n _ _ p o q q₁ z u b w f x d), b₁)

-- ---- the theorem

-- "for every shape: its written text, if short enough, reads back as the same shape"
pub shape_reads_back
    : (l : Limits) (s : Shape) → GoodShape s → ascending s ≡ true → forms s ≤ l.values → levels s ≤ l.nesting
    → read_shape l (write_shape s) ≡ ok s
unfolding read_shape write_shape tokens lex look between border_table ended read_tokens or_end finished put depth bytes
shape_reads_back l s g a h k =
    let h₁ : 0 + forms s ≤ l.values = omega arith in
    let k₁ : 0 + levels s ≤ l.nesting = omega arith in
    let d = shape_reads g a 0 l 0 text_end (want (shape_open text_end)) (bytes "\n") (steps_member_shape text_end) h₁ k₁ in
    (d.reads 0 (length (write_shape s))).1
