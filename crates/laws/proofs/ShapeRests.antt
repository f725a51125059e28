-- What may still come in each state of reading a shape text, by the grammar. Assumes nothing.
use Rattle.std.specs.Prelude.{ℕ, ◌≡◌, refl, Bool, true, false, List, [], ◌∷◌}
use Rattle.std.proofs.Common.{sym, subst, ⊎_elim}
use Rattle.definitions.specs.Bytes.{Bytes, bytes}
use Rattle.definitions.specs.Shape.{Kind, among, Shape, shape, Record, no_rec, rec_of, Fields, no_fields, field, has, has_list, has_rec, behind}
use Rattle.definitions.specs.ShapeText.{Parts, Around, as_element, as_member, shape_open, shape_word, kind_word, member_open, member_word}
use Rattle.definitions.specs.ShapeText.{member_name, member_close, State, want, whole, no_parts, with_kind, with_element, with_member}
use Rattle.definitions.specs.ShapeText.{put, fields_onto, numeric_from, record_from, build, kind_name, may_follow, name_fits}
use Rattle.definitions.specs.Tokens.{opening, closing, quoted, word, Placed}
use Rattle.laws.specs.Bools.{tell, clash}
use Rattle.laws.specs.FormGrammar.{at, head, ShapeForm, shape_form, ElementForm, no_element}
use Rattle.laws.specs.FormGrammar.{element, no_members, members, MembersForm, no_member, member}
use Rattle.laws.proofs.ShapeKinds.{KindsOn, kinds_end, kinds_next, bound, follow_bound, kinds_dec, kinds_words, numeric_int, numeric_dec}

-- ---- what may still come

-- the shape of its parts, with this record
abbrev pub with_record : Parts → Record → Shape
with_record p r =
    shape (among Kind.null p.kinds) (among Kind.bool p.kinds) (numeric_from p.kinds) (among Kind.text p.kinds) p.element r

-- the members fs may follow those read so far, latest first
abbrev pub follows : Fields → Fields → Bool
follows gs no_fields = true
follows gs (field n s fs) = name_fits gs n

-- behind kinds and element: members and the bracket that ends the shape
pub data Tail (p : Parts) : List Placed → Shape → List Placed → Type 0 where
  no_tail : {x : ℕ} {ts : List Placed} → among Kind.rec p.kinds ≡ false → Tail p (at x closing ∷ ts) (with_record p no_rec) ts
  tail
      : {x : ℕ} {fs : Fields} {ts us : List Placed} → among Kind.rec p.kinds ≡ true → MembersForm ts fs (at x closing ∷ us)
      → follows p.fields fs ≡ true → Tail p ts (with_record p (rec_of (fields_onto p.fields fs))) us

-- behind the kinds
pub data After (p : Parts) : List Placed → Shape → List Placed → Type 0 where
  after_plain : {s : Shape} {ts us : List Placed} → among Kind.list p.kinds ≡ false → Tail p ts s us → After p ts s us
  after_List
      : {e s : Shape} {ts us vs : List Placed} → among Kind.list p.kinds ≡ true → ShapeForm ts e us
      → Tail (with_element e p) us s vs → After p ts s vs

-- the parts with other kinds
abbrev pub re_kinded : Parts → List Kind → Parts
re_kinded p ks = record { kinds = ks; element = p.element; fields = p.fields }

-- what may still come in a state, up to the end of a text that means a
pub data Rest : State → List Placed → Shape → Type 0 where
  rest_whole : {a : Shape} → Rest (whole a) [] a
  rest_open
      : {o : Around} {s a : Shape} {ts us : List Placed} → ShapeForm ts s us → Rest (put s o) us a
      → Rest (want (shape_open o)) ts a
  rest_word
      : {o : Around} {a : Shape} {x : ℕ} {ts : List Placed} → Rest (want (kind_word no_parts o)) ts a
      → Rest (want (shape_word o)) (at x (word (bytes "shape")) ∷ ts) a
  rest_kinds
      : {p : Parts} {o : Around} {ls : List Kind} {s a : Shape} {ts us vs : List Placed}
      → KindsOn (bound p.kinds) p.kinds ts ls us → After (re_kinded p ls) us s vs → Rest (put s o) vs a
      → Rest (want (kind_word p o)) ts a
  rest_members
      : {p : Parts} {o : Around} {s a : Shape} {ts us : List Placed} → Tail p ts s us → Rest (put s o) us a
      → Rest (want (member_open p o)) ts a
  rest_member
      : {p : Parts} {o : Around} {a : Shape} {x : ℕ} {ts : List Placed} → Rest (want (member_name p o)) ts a
      → Rest (want (member_word p o)) (at x (word (bytes "member")) ∷ ts) a
  rest_name
      : {p : Parts} {o : Around} {n : Bytes} {a : Shape} {x : ℕ} {ts : List Placed} → name_fits p.fields n ≡ true
      → Rest (want (shape_open (as_member p n o))) ts a → Rest (want (member_name p o)) (at x (quoted n) ∷ ts) a
  rest_close
      : {p : Parts} {o : Around} {a : Shape} {x : ℕ} {ts : List Placed} → Rest (want (member_open p o)) ts a
      → Rest (want (member_close p o)) (at x closing ∷ ts) a

-- ---- one token more before it

-- the shape has the kinds that were read
has_read
    : (p : Parts) (r : Record) → (among Kind.dec p.kinds ≡ true → among Kind.int p.kinds ≡ true)
    → has_list p.element ≡ among Kind.list p.kinds → has_rec r ≡ among Kind.rec p.kinds
    → (k : Kind) → has k (with_record p r) ≡ among k p.kinds
unfolding has
has_read p r d l e Kind.null = refl
has_read p r d l e Kind.bool = refl
has_read p r d l e Kind.int = numeric_int p.kinds d
has_read p r d l e Kind.dec = numeric_dec p.kinds
has_read p r d l e Kind.text = refl
has_read p r d l e Kind.list = l
has_read p r d l e Kind.rec = e

-- a shape from its kinds and what is behind them
tail_form
    : {x y : ℕ} {p : Parts} {s : Shape} {ts us vs ws : List Placed} → KindsOn 0 [] ts p.kinds us → ElementForm us p.element vs
    → has_list p.element ≡ among Kind.list p.kinds → p.fields ≡ no_fields → Tail p vs s ws
    → ShapeForm (at x opening ∷ at y (word (bytes "shape")) ∷ ts) s ws
unfolding has_rec fields_onto among
tail_form {p = p} g e l f (no_tail r) =
    shape_form head (kinds_words _ g (has_read p no_rec (kinds_dec g (λ d. d)) l (sym r))) e no_members
tail_form {p = p} g e l f (tail {x = x} {fs = fs} {ts = ts} {us = us} r m h) =
    shape_form
    head
    (kinds_words _ g (has_read p (rec_of (fields_onto p.fields fs)) (kinds_dec g (λ d. d)) l (sym r)))
    e
    (members (subst (λ gs. MembersForm ts (fields_onto gs fs) (at x closing ∷ us)) (sym f) m))

after_form
    : {x y : ℕ} {ls : List Kind} {s : Shape} {ts us vs : List Placed} → KindsOn 0 [] ts ls us → After (re_kinded no_parts ls) us s vs
    → ShapeForm (at x opening ∷ at y (word (bytes "shape")) ∷ ts) s vs
unfolding no_parts has_list with_element
after_form g (after_plain l t) = tail_form g no_element (sym l) refl t
after_form g (after_List l e t) = tail_form g (element e) (sym l) refl t

-- the record of parts whose members have ended
pub ended_without : (p : Parts) → among Kind.rec p.kinds ≡ false → build p ≡ with_record p no_rec
unfolding build record_from
ended_without p h = rw (h, record_from)

pub ended_with : (p : Parts) → among Kind.rec p.kinds ≡ true → build p ≡ with_record p (rec_of (fields_onto p.fields no_fields))
unfolding build record_from
ended_with p h = rw (h, record_from)

-- the bracket that ends a shape
pub tail_end
    : {p : Parts} {o : Around} {a : Shape} {x : ℕ} {ts : List Placed} → Rest (put (build p) o) ts a → Rest (want (member_open p o)) (at x closing ∷ ts) a
tail_end {p} {o} {a} {ts = ts} r =
    ⊎_elim
    (λ (h : among Kind.rec p.kinds ≡ true).
    rest_members (tail h no_member refl) (subst (λ s. Rest (put s o) ts a) (ended_with p h) r))
    (λ (h : among Kind.rec p.kinds ≡ false). rest_members (no_tail h) (subst (λ s. Rest (put s o) ts a) (ended_without p h) r))
    (tell (among Kind.rec p.kinds))

-- what may follow a member stands behind its name
pub follows_behind : (n : Bytes) (s : Shape) (gs fs : Fields) → follows (field n s gs) fs ≡ true → behind n fs ≡ true
unfolding name_fits behind
follows_behind n s gs no_fields h = refl
follows_behind n s gs (field m t fs) h = h

pub behind_follows : (n : Bytes) (s : Shape) (gs fs : Fields) → behind n fs ≡ true → follows (field n s gs) fs ≡ true
unfolding name_fits behind
behind_follows n s gs no_fields h = refl
behind_follows n s gs (field m t fs) h = h

tail_more
    : {p : Parts} {n : Bytes} {s a : Shape} {x y z w : ℕ} {ts us vs : List Placed} → among Kind.rec p.kinds ≡ true
    → name_fits p.fields n ≡ true → ShapeForm ts s (at w closing ∷ us) → Tail (with_member n s p) us a vs
    → Tail p (at x opening ∷ at y (word (bytes "member")) ∷ at z (quoted n) ∷ ts) a vs
unfolding with_member fields_onto
tail_more h f g (no_tail e) = clash h e
tail_more {p} {n} {s} h f g (tail {fs = fs} e m b) = tail h (member head g (follows_behind n s p.fields fs b) m) f

member_closes
    : {p : Parts} {o : Around} {n : Bytes} {s a : Shape} {x y z : ℕ} {ts us : List Placed} → among Kind.rec p.kinds ≡ true
    → name_fits p.fields n ≡ true → ShapeForm ts s us → Rest (want (member_close (with_member n s p) o)) us a
    → Rest (want (member_open p o)) (at x opening ∷ at y (word (bytes "member")) ∷ at z (quoted n) ∷ ts) a
member_closes h n s (rest_close (rest_members t r)) = rest_members (tail_more h n s t) r

-- the bracket of a member
pub tail_member
    : {p : Parts} {o : Around} {a : Shape} {x : ℕ} {ts : List Placed} → among Kind.rec p.kinds ≡ true
    → Rest (want (member_word p o)) ts a → Rest (want (member_open p o)) (at x opening ∷ ts) a
unfolding put
tail_member h (rest_member (rest_name n (rest_open s r))) = member_closes h n s r

-- the bracket of a shape
pub form_open
    : {o : Around} {a : Shape} {x : ℕ} {ts : List Placed} → Rest (want (shape_word o)) ts a
    → Rest (want (shape_open o)) (at x opening ∷ ts) a
unfolding no_parts bound
form_open (rest_word (rest_kinds g t r)) = rest_open (after_form g t) r

pub kind_begins
    : {p : Parts} {o : Around} (k : Kind) {a : Shape} {x : ℕ} {ts : List Placed} → may_follow p.kinds k ≡ true
    → Rest (want (kind_word (with_kind k p) o)) ts a → Rest (want (kind_word p o)) (at x (word (kind_name k)) ∷ ts) a
unfolding with_kind bound
kind_begins {p} k h (rest_kinds g t r) = rest_kinds (kinds_next (follow_bound p.kinds k h) h g) t r

-- a state behind kinds without list is one behind the element
pub no_more_kinds
    : {p : Parts} {o : Around} {a : Shape} {ts : List Placed} → among Kind.list p.kinds ≡ false
    → Rest (want (member_open p o)) ts a → Rest (want (kind_word p o)) ts a
no_more_kinds h (rest_members t r) = rest_kinds kinds_end (after_plain h t) r

element_ends
    : {p : Parts} {o : Around} {e a : Shape} {ts us : List Placed} → among Kind.list p.kinds ≡ true → ShapeForm ts e us
    → Rest (want (member_open (with_element e p) o)) us a → Rest (want (kind_word p o)) ts a
element_ends h e (rest_members t r) = rest_kinds kinds_end (after_List h e t) r

-- the bracket of an element
pub element_begins
    : {p : Parts} {o : Around} {a : Shape} {x : ℕ} {ts : List Placed} → among Kind.list p.kinds ≡ true
    → Rest (want (shape_word (as_element p o))) ts a → Rest (want (kind_word p o)) (at x opening ∷ ts) a
unfolding put
element_begins h r = by_form h (form_open r)
  where
    by_form
        : {p : Parts} {o : Around} {a : Shape} {ts : List Placed} → among Kind.list p.kinds ≡ true
        → Rest (want (shape_open (as_element p o))) ts a → Rest (want (kind_word p o)) ts a
    by_form h (rest_open e r) = element_ends h e r
