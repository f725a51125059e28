-- The pieces of a shape text: what its tokens do, how it stands together, and the order of its member names.
-- Assumes nothing.
use Rattle.std.specs.Prelude.{ℕ, suc, ◌≤◌, ◌≡◌, refl, Bool, true, false, ◌∷◌, ◌++◌, ltb}
use Rattle.std.proofs.Common.{arith, ◌∙◌, ap, append_assoc}
use Rattle.definitions.specs.declared.Limits.{Limits}
use Rattle.definitions.specs.Bytes.{Bytes, bytes, look, between, order, same}
use Rattle.definitions.specs.Plain.{plain_text}
use Rattle.definitions.specs.Limits.{over}
use Rattle.definitions.specs.Tokens.{opening, closing, quoted, word, at_place, go, opens, want_open, want_close}
use Rattle.definitions.specs.Tokens.{want_text, want_word, want_named, where_true, where_some, look_word, border_table}
use Rattle.definitions.specs.Shape.{Kind, all_kinds, among, Shape, Element, no_list, list_of, Record, no_rec, rec_of, Fields, no_fields, field, behind}
use Rattle.definitions.specs.ShapeText.{Parts, no_parts, Around, as_element, as_member, State, want, shape_open, shape_word}
use Rattle.definitions.specs.ShapeText.{kind_word, member_open, member_word, member_name, member_close, put, depth, build}
use Rattle.definitions.specs.ShapeText.{name_fits, shape_words, member_words, member_step, element_step, bracket_step, kind_step}
use Rattle.definitions.specs.ShapeText.{want_step, step, write_kinds, new_line, write, write_element, write_record, write_fields}
use Rattle.laws.specs.Ranges.{gt_leb}
use Rattle.laws.proofs.LexLaws.{inner, is_word, Bordered, bordered_line}
use Rattle.laws.proofs.RoundReads.{Steps}

-- ---- the limits

pub room : (l : Limits) (n d : ℕ) → n ≤ l.values → d ≤ l.nesting → over l n d ≡ false
room l n d h k =
    let h₁ : ltb l.values n ≡ false = gt_leb {m = suc l.values} {n = n} (omega arith) in
    let k₁ : ltb l.nesting d ≡ false = gt_leb {m = suc l.nesting} {n = d} (omega arith) in
    rw (h₁, k₁) refl

-- ---- what the tokens do

pub shape_is_word : is_word (bytes "shape") ≡ true
unfolding is_word inner bytes look between border_table
shape_is_word = refl

pub member_is_word : is_word (bytes "member") ≡ true
unfolding is_word inner bytes look between border_table
member_is_word = refl

pub steps_shape : (o : Around) → Steps (want (shape_word o)) (word (bytes "shape")) (go (want (kind_word no_parts o)))
unfolding step want_step want_named want_word where_some look_word shape_words bytes same order at_place
steps_shape o p = refl

pub steps_member
    : (p : Parts) (o : Around) → Steps (want (member_word p o)) (word (bytes "member")) (go (want (member_name p o)))
unfolding step want_step want_named want_word where_some look_word member_words bytes same order at_place
steps_member p o at = refl

pub steps_name
    : (p : Parts) (o : Around) (n : Bytes) → name_fits p.fields n ≡ true
    → Steps (want (member_name p o)) (quoted n) (go (want (shape_open (as_member p n o))))
unfolding step want_step want_text where_true at_place
steps_name p o n h at = rw h refl

-- brackets do in this state what they do behind the kinds and the element
pub record Behind (p : Parts) (o : Around) (q : State) : Type 0 where
  pub opened : Steps q opening (member_step p o opening)
  pub closed : Steps q closing (member_step p o closing)

pub behind_kinds : (p : Parts) (o : Around) → among Kind.list p.kinds ≡ false → Behind p o (want (kind_word p o))
unfolding step want_step kind_step bracket_step at_place
behind_kinds p o h = record { opened = λ at. rw (h, bracket_step) refl; closed = λ at. rw (h, bracket_step) refl }

pub behind_element : (p : Parts) (o : Around) → Behind p o (want (member_open p o))
unfolding step want_step at_place
behind_element p o = record { opened = λ at. refl; closed = λ at. refl }

-- behind the kinds, where list is among them, the bracket of the element comes
pub steps_element
    : (p : Parts) (o : Around) → among Kind.list p.kinds ≡ true
    → Steps (want (kind_word p o)) opening (opens (suc (depth (as_element p o))) (want (shape_word (as_element p o))))
unfolding step want_step kind_step bracket_step element_step want_open at_place depth
steps_element p o h at = rw (h, bracket_step) refl

pub steps_member_shape
    : (o : Around) → Steps (want (shape_open o)) opening (opens (suc (depth o)) (want (shape_word o)))
unfolding step want_step want_open at_place
steps_member_shape o at = refl

pub steps_member_close : (p : Parts) (o : Around) → Steps (want (member_close p o)) closing (go (want (member_open p o)))
unfolding step want_step want_close at_place
steps_member_close p o at = refl

-- where rec is among the kinds a member may come
pub steps_member_open
    : (p : Parts) (o : Around) (q : State) → Behind p o q → among Kind.rec p.kinds ≡ true
    → Steps q opening (go (want (member_word p o)))
unfolding member_step where_true
steps_member_open p o q b h at = b.opened at ∙ rw h refl

-- the shape is whole
pub steps_shape_close : (p : Parts) (o : Around) (q : State) → Behind p o q → Steps q closing (go (put (build p) o))
unfolding member_step
steps_shape_close p o q b at = b.closed at

-- ---- the pieces of a written shape

append_four : (a b c d z : Bytes) → a ++ b ++ c ++ d ++ z ≡ a ++ (b ++ (c ++ (d ++ z)))
append_four a b c d z = simp append_assoc

append_six : (a b c d e f z : Bytes) → a ++ b ++ c ++ d ++ e ++ f ++ z ≡ a ++ (b ++ (c ++ (d ++ (e ++ (f ++ z)))))
append_six a b c d e f z = simp append_assoc

pub write_split
    : (s : Shape) (e : Element) (r : Record) (around : ℕ) (z : Bytes)
    → bytes "(shape" ++ write_kinds s all_kinds ++ write_element e (suc around) ++ write_record r (suc around) ++ bytes ")" ++ z
    ≡ 0x28
    ∷ bytes "shape"
    ++ (write_kinds s all_kinds ++ (write_element e (suc around) ++ (write_record r (suc around) ++ 0x29 ∷ z)))
unfolding bytes
write_split s e r around z =
    ap
    (λ w. 0x28 ∷ bytes "shape" ++ w)
    (append_four (write_kinds s all_kinds) (write_element e (suc around)) (write_record r (suc around)) (bytes ")") z)

pub fields_split
    : (n : Bytes) (s : Shape) (fs : Fields) (around : ℕ) (z : Bytes)
    → write_fields (field n s fs) around ++ z
    ≡ new_line around
    ++ (0x28
    ∷ bytes "member"
    ++ (0x20 ∷ plain_text n ++ (new_line (suc around) ++ (write s (suc around) ++ (0x29 ∷ write_fields fs around ++ z)))))
unfolding write_fields bytes
fields_split n s fs around z =
    append_assoc
    (new_line around ++ bytes "(member " ++ plain_text n ++ new_line (suc around) ++ write s (suc around) ++ bytes ")")
    (write_fields fs around)
    z
    ∙ append_six
    (new_line around)
    (bytes "(member ")
    (plain_text n)
    (new_line (suc around))
    (write s (suc around))
    (bytes ")")
    (write_fields fs around ++ z)

-- a word may end before the element, or before the members
pub bordered_element : (e : Element) (around : ℕ) (z : Bytes) → Bordered z → Bordered (write_element e around ++ z)
unfolding write_element new_line bytes
bordered_element no_list around z h = h
bordered_element (list_of s) around z h = bordered_line _

pub bordered_record : (r : Record) (around : ℕ) (z : Bytes) → Bordered z → Bordered (write_record r around ++ z)
unfolding write_record new_line bytes
bordered_record no_rec around z h = h
bordered_record (rec_of no_fields) around z h = h
bordered_record (rec_of (field n s fs)) around z h = bordered_line _

-- the first of the members gs may come behind those of fs, which stand latest first
unfoldable pub follows : Fields → Fields → Bool
follows fs no_fields = true
follows fs (field n s gs) = name_fits fs n

pub follows_behind : (n : Bytes) (s : Shape) (fs gs : Fields) → behind n gs ≡ true → follows (field n s fs) gs ≡ true
unfolding follows behind name_fits
follows_behind n s fs no_fields h = refl
follows_behind n s fs (field m t gs) h = h

pub follows_first : (fs : Fields) → follows no_fields fs ≡ true
unfolding follows name_fits
follows_first no_fields = refl
follows_first (field n s fs) = refl
