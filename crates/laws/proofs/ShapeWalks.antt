-- Reading goes along every right shape text: from the state before a shape to the state behind it. Assumes nothing.
use Rattle.std.specs.Prelude.{ℕ, suc, ◌+◌, max, ◌≡◌, refl, Bool, true, false, List, [], ◌∷◌, ◌++◌, length}
use Rattle.std.proofs.Common.{sym, ◌∙◌, ap, ap₂, subst, length-append, arith}
use Rattle.definitions.specs.Bytes.{Bytes, bytes, order, same}
use Rattle.definitions.specs.Shape.{Kind, among, Numeric, Shape, shape, Element, no_list, list_of, Record, no_rec}
use Rattle.definitions.specs.Shape.{rec_of, Fields, no_fields, field, has, has_list, has_rec, forms, forms_element}
use Rattle.definitions.specs.Shape.{forms_record, forms_fields, levels, levels_element, levels_record, levels_fields}
use Rattle.definitions.specs.ShapeText.{Parts, Around, as_element, as_member, shape_open, shape_word, kind_word, member_open}
use Rattle.definitions.specs.ShapeText.{member_word, member_name, member_close, State, want, no_parts, with_kind, with_element}
use Rattle.definitions.specs.ShapeText.{with_member, put, depth, fields_onto, build, kind_name, shape_words, member_words}
use Rattle.definitions.specs.ShapeText.{may_follow, name_fits, member_step, element_step, bracket_step, kind_step, want_step, step}
use Rattle.definitions.specs.Tokens.{opening, closing, quoted, word, Placed, go, opens, want_open, want_close}
use Rattle.definitions.specs.Tokens.{want_text, want_word, want_named, where_true, where_some, look_word}
use Rattle.laws.specs.FormGrammar.{at, ShapeForm, shape_form, ElementForm, no_element, element}
use Rattle.laws.specs.FormGrammar.{RecordForm, no_members, members, MembersForm, no_member, member}
use Rattle.laws.specs.FormRuns.{Walk, stay, on, walk_append, most, most_append}
use Rattle.laws.proofs.FormSteps.{head_enter, head_on}
use Rattle.laws.proofs.ShapeKinds.{KindsOn, kinds_end, kinds_next, words_kinds, numeric_agrees, look_kind}
use Rattle.laws.proofs.ShapeRests.{with_record, follows, ended_with, ended_without, behind_follows}

-- ---- the nestings of shape forms, in the order of their brackets

unfoldable mutual
  -- of a shape that d shapes are open around
  pub shape_depths : Shape → ℕ → List ℕ
  shape_depths (shape n b m t e r) d = suc d ∷ element_depths e (suc d) ++ record_depths r (suc d)

  pub element_depths : Element → ℕ → List ℕ
  element_depths no_list d = []
  element_depths (list_of s) d = shape_depths s d

  pub record_depths : Record → ℕ → List ℕ
  record_depths no_rec d = []
  record_depths (rec_of fs) d = fields_depths fs d

  pub fields_depths : Fields → ℕ → List ℕ
  fields_depths no_fields d = []
  fields_depths (field n s fs) d = shape_depths s d ++ fields_depths fs d

-- they are as many as the forms
mutual
  unfolding shape_depths forms

  pub depths_forms : (s : Shape) (d : ℕ) → length (shape_depths s d) ≡ forms s
  depths_forms (shape n b m t e r) d =
      ap suc (length-append (element_depths e (suc d)) (record_depths r (suc d)) ∙ ap₂ ◌+◌ (depths_element e (suc d)) (depths_record r (suc d)))

  depths_element : (e : Element) (d : ℕ) → length (element_depths e d) ≡ forms_element e
  depths_element no_list d = refl
  depths_element (list_of s) d = depths_forms s d

  depths_record : (r : Record) (d : ℕ) → length (record_depths r d) ≡ forms_record r
  depths_record no_rec d = refl
  depths_record (rec_of fs) d = depths_fields fs d

  depths_fields : (fs : Fields) (d : ℕ) → length (fields_depths fs d) ≡ forms_fields fs
  depths_fields no_fields d = refl
  depths_fields (field n s fs) d =
      length-append (shape_depths s d) (fields_depths fs d) ∙ ap₂ ◌+◌ (depths_forms s d) (depths_fields fs d)

-- the greatest is their nesting
mutual
  unfolding shape_depths levels most

  pub depths_levels : (s : Shape) (d : ℕ) → max d (most (shape_depths s d)) ≡ d + levels s
  depths_levels (shape n b m t e r) d =
      let h = most_append (element_depths e (suc d)) (record_depths r (suc d)) in
      let i = levels_of_element e (suc d) in
      let j = levels_of_record r (suc d) in
      omega arith

  levels_of_element : (e : Element) (d : ℕ) → max d (most (element_depths e d)) ≡ d + levels_element e
  levels_of_element no_list d = omega arith
  levels_of_element (list_of s) d = depths_levels s d

  levels_of_record : (r : Record) (d : ℕ) → max d (most (record_depths r d)) ≡ d + levels_record r
  levels_of_record no_rec d = omega arith
  levels_of_record (rec_of fs) d = levels_of_fields fs d

  levels_of_fields : (fs : Fields) (d : ℕ) → max d (most (fields_depths fs d)) ≡ d + levels_fields fs
  levels_of_fields no_fields d = omega arith
  levels_of_fields (field n s fs) d =
      let h = most_append (shape_depths s d) (fields_depths fs d) in
      let i = depths_levels s d in
      let j = levels_of_fields fs d in
      omega arith

-- ---- steps that lead on

pub shape_opens : (o : Around) (x : ℕ) → step (want (shape_open o)) (at x opening) ≡ opens (suc (depth o)) (want (shape_word o))
unfolding step want_step want_open
shape_opens o x = refl

pub shape_named : (o : Around) (x : ℕ) → step (want (shape_word o)) (at x (word (bytes "shape"))) ≡ go (want (kind_word no_parts o))
unfolding step want_step want_named want_word where_some look_word shape_words same order bytes
shape_named o x = refl

pub member_named
    : (p : Parts) (o : Around) (x : ℕ) → step (want (member_word p o)) (at x (word (bytes "member"))) ≡ go (want (member_name p o))
unfolding step want_step want_named want_word where_some look_word member_words same order bytes
member_named p o x = refl

pub member_called
    : (p : Parts) (o : Around) (n : Bytes) (x : ℕ) → name_fits p.fields n ≡ true
    → step (want (member_name p o)) (at x (quoted n)) ≡ go (want (shape_open (as_member p n o)))
unfolding step want_step want_text where_true
member_called p o n x h = rw (h, where_true)

pub member_closed : (p : Parts) (o : Around) (x : ℕ) → step (want (member_close p o)) (at x closing) ≡ go (want (member_open p o))
unfolding step want_step want_close
member_closed p o x = refl

kind_goes
    : (p : Parts) (o : Around) (k : Kind) (x : ℕ) → may_follow p.kinds k ≡ true
    → step (want (kind_word p o)) (at x (word (kind_name k))) ≡ go (want (kind_word (with_kind k p) o))
unfolding step want_step kind_step where_some where_true
kind_goes p o k x h = rw (look_kind k, where_some, h, where_true)

pub element_opens
    : (p : Parts) (o : Around) (x : ℕ) → among Kind.list p.kinds ≡ true
    → step (want (kind_word p o)) (at x opening) ≡ opens (suc (depth (as_element p o))) (want (shape_word (as_element p o)))
unfolding step want_step kind_step bracket_step element_step want_open depth
element_opens p o x h = rw (h, bracket_step)

-- ---- behind the kinds

-- the state is behind the kinds and the element of these parts
pub data AtMembers : State → Parts → Around → Type 0 where
  behind_kinds : {p : Parts} {o : Around} → among Kind.list p.kinds ≡ false → AtMembers (want (kind_word p o)) p o
  behind_element : {p : Parts} {o : Around} → AtMembers (want (member_open p o)) p o

members_open
    : {q : State} {p : Parts} {o : Around} → AtMembers q p o → (x : ℕ) → among Kind.rec p.kinds ≡ true
    → step q (at x opening) ≡ go (want (member_word p o))
unfolding step want_step kind_step bracket_step member_step where_true
members_open (behind_kinds h) x r = rw (h, bracket_step, r, where_true)
members_open behind_element x r = rw (r, where_true)

pub members_end
    : {q : State} {p : Parts} {o : Around} → AtMembers q p o → (x : ℕ) → step q (at x closing) ≡ go (put (build p) o)
unfolding step want_step kind_step bracket_step member_step
members_end (behind_kinds h) x = rw (h, bracket_step)
members_end behind_element x = refl

-- the parts of these kinds and this element
abbrev parts : List Kind → Element → Parts
parts ls e = record { kinds = ls; element = e; fields = no_fields }

kinds_walk
    : {b : ℕ} {ks ls : List Kind} {ts us : List Placed} → KindsOn b ks ts ls us → (o : Around)
    → Walk step (want (kind_word (parts ks no_list) o)) ts [] (want (kind_word (parts ls no_list) o)) us
unfolding with_kind
kinds_walk kinds_end o = stay
kinds_walk {ks = ks} (kinds_next {x = x} {k = k} h f g) o = on (kind_goes (parts ks no_list) o k x f) (kinds_walk g o)

-- the walk over an element, if there is one
record ElementWalk (ls : List Kind) (e : Element) (o : Around) (ts us : List Placed) : Type 0 where
  state : State
  behind : AtMembers state (parts ls e) o
  walk : Walk step (want (kind_word (parts ls no_list) o)) ts (element_depths e (suc (depth o))) state us

-- the walk over the bracket that ends a shape
end_walk
    : {q : State} {p : Parts} {o : Around} {s : Shape} {ts vs : List Placed} → AtMembers q p o → build p ≡ s → (x : ℕ)
    → ts ≡ at x closing ∷ vs → Walk step q ts [] (put s o) vs
end_walk {q} {p} {o} {s} {ts} {vs} a e x i =
    subst
    (λ us. Walk step q us [] (put s o) vs)
    (sym i)
    (subst (λ z. Walk step q (at x closing ∷ vs) [] (put z o) vs) e (on (members_end a x) stay))

-- any members may come first
first_follows : (gs fs : Fields) → gs ≡ no_fields → follows gs fs ≡ true
unfolding name_fits
first_follows gs no_fields e = refl
first_follows gs (field n s fs) e = ap (λ hs. name_fits hs n) e

-- the shape of parts that agree with it
agreed
    : (ls : List Kind) (n b : Bool) (m : Numeric) (t : Bool) (e : Element) (r : Record)
    → ((k : Kind) → among k ls ≡ has k (shape n b m t e r)) → with_record (parts ls e) r ≡ shape n b m t e r
unfolding has
agreed ls n b m t e r h =
    λ i. shape (h Kind.null i) (h Kind.bool i) (numeric_agrees ls m (h Kind.dec) (h Kind.int) i) (h Kind.text i) e r

-- ---- walks over forms

mutual
  unfolding shape_depths put depth with_element with_member fields_onto has_list has_rec has no_parts

  -- from a state where the bracket of a shape leads on
  pub shape_walk
      : {s : Shape} {ts us : List Placed} → ShapeForm ts s us → (o : Around) (q : State)
      → ((x : ℕ) → step q (at x opening) ≡ opens (suc (depth o)) (want (shape_word o)))
      → Walk step q ts (shape_depths s (depth o)) (put s o) us
  shape_walk (shape_form {x = x} {ws = ws} {xs = xs} {n = n} {b = b} {t = t} {m = m} {e = e} {r = r} h k f g) o q begins =
      let read = words_kinds (shape n b m t e r) k in
      let ls = read.kinds in
      let ew = element_walk f ls o (sym (read.agrees Kind.list)) in
      head_enter
      h
      (begins _)
      (shape_named o)
      (walk_append
      (kinds_walk read.chain o)
      (walk_append
      ew.walk
      (subst
      (λ s. Walk step ew.state ws (record_depths r (suc (depth o))) (put s o) xs)
      (agreed ls n b m t e r read.agrees)
      (record_walk g (parts ls e) o ew.state ew.behind refl (sym (read.agrees Kind.rec)) x xs refl))))

  element_walk
      : {e : Element} {ts us : List Placed} → ElementForm ts e us → (ls : List Kind) (o : Around)
      → has_list e ≡ among Kind.list ls → ElementWalk ls e o ts us
  element_walk no_element ls o h = record { state = want (kind_word (parts ls no_list) o); behind = behind_kinds (sym h); walk = stay }
  element_walk (element {s = s} f) ls o h =
      record {
        state = want (member_open (parts ls (list_of s)) o);
        behind = behind_element;
        walk = shape_walk f (as_element (parts ls no_list) o) (want (kind_word (parts ls no_list) o)) (λ x. element_opens (parts ls no_list) o x (sym h));
      }

  record_walk
      : {r : Record} {ts us : List Placed} → RecordForm ts r us → (p : Parts) (o : Around) (q : State) → AtMembers q p o
      → p.fields ≡ no_fields → has_rec r ≡ among Kind.rec p.kinds → (x : ℕ) (vs : List Placed) → us ≡ at x closing ∷ vs
      → Walk step q ts (record_depths r (suc (depth o))) (put (with_record p r) o) vs
  record_walk no_members p o q a e h x vs i = end_walk a (ended_without p (sym h)) x i
  record_walk (members {fs = fs} {ts = ts} m) p o q a e h x vs i =
      subst
      (λ gs. Walk step q ts (fields_depths fs (suc (depth o))) (put (with_record p (rec_of (fields_onto gs fs))) o) vs)
      e
      (members_walk m p o q a (first_follows p.fields fs e) (sym h) x vs i)

  members_walk
      : {fs : Fields} {ts us : List Placed} → MembersForm ts fs us → (p : Parts) (o : Around) (q : State) → AtMembers q p o
      → follows p.fields fs ≡ true → among Kind.rec p.kinds ≡ true → (x : ℕ) (vs : List Placed) → us ≡ at x closing ∷ vs
      → Walk step q ts (fields_depths fs (suc (depth o))) (put (with_record p (rec_of (fields_onto p.fields fs))) o) vs
  members_walk no_member p o q a e h x vs i = end_walk a (ended_with p h) x i
  members_walk (member {p = y} {x = z} {n = n} {s = s} {fs = fs} c f b m) p o q a e h x vs i =
      head_on
      c
      (members_open a y h)
      (member_named p o)
      (on
      (member_called p o n z e)
      (walk_append
      (shape_walk f (as_member p n o) (want (shape_open (as_member p n o))) (shape_opens (as_member p n o)))
      (on
      (member_closed (with_member n s p) o _)
      (members_walk
      m
      (with_member n s p)
      o
      (want (member_open (with_member n s p) o))
      behind_element
      (behind_follows n s p.fields fs b)
      h
      x
      vs
      i))))
