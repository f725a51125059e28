-- The kind words of a shape text: reading those that were written gives the shape's kinds, and a shape is built from its
-- kinds, its element and its members. Assumes nothing.
use Rattle.std.specs.Prelude.{ℕ, ◌≡◌, refl, Bool, true, false, ◌||◌, List, [], ◌∷◌, ◌++◌, ltb, eqb}
use Rattle.std.proofs.Common.{sym, ◌∙◌, ap, subst, append_assoc}
use Rattle.std.proofs.lemmas.Bool.{false≢true}
use Rattle.definitions.specs.declared.Limits.{Limits}
use Rattle.definitions.specs.Bytes.{Bytes, bytes, look, between}
use Rattle.definitions.specs.Tokens.{word, at_place, go, where_true, where_some, border_table}
use Rattle.definitions.specs.Shape.{Kind, all_kinds, rank, among, every, Numeric, no_number, int_only, int_and_dec, Shape}
use Rattle.definitions.specs.Shape.{shape, Record, no_rec, rec_of, Fields, no_fields, field, has_int, has_dec, has_rec, has}
use Rattle.definitions.specs.ShapeText.{Parts, Around, want, kind_word, with_kind, fields_onto, numeric_from, record_from, build}
use Rattle.definitions.specs.ShapeText.{kind_name, in_order, may_follow, kind_step, want_step, step, write_kinds}
use Rattle.laws.specs.Bools.{and_left, and_right, and_intro, or_false_left, or_false_right}
use Rattle.laws.proofs.LexLaws.{inner, is_word, Bordered, bordered_space}
use Rattle.laws.proofs.RoundReads.{Reads, Steps, reads_nothing, reads_then, reads_from, reads_space, reads_word}
use Rattle.laws.proofs.ShapeKinds.{look_kind}

-- ---- words

kind_name_word : (k : Kind) → is_word (kind_name k) ≡ true
unfolding is_word inner kind_name bytes look between border_table
kind_name_word Kind.null = refl
kind_name_word Kind.bool = refl
kind_name_word Kind.int = refl
kind_name_word Kind.dec = refl
kind_name_word Kind.text = refl
kind_name_word Kind.list = refl
kind_name_word Kind.rec = refl

-- the word of a kind that may follow
steps_kind
    : (k : Kind) (p : Parts) (o : Around) → may_follow p.kinds k ≡ true
    → Steps (want (kind_word p o)) (word (kind_name k)) (go (want (kind_word (with_kind k p) o)))
unfolding step want_step kind_step at_place where_some where_true
steps_kind k p o h at = rw (look_kind k, h) refl

-- ---- the kinds that a shape has

-- the kind k before these, where the test holds
unfoldable pub pick : Bool → Kind → List Kind → List Kind
pick true k ks = k ∷ ks
pick false k ks = ks

-- those of the kinds ks that the shape has, latest first, before others
unfoldable pub picks_onto : Shape → List Kind → List Kind → List Kind
picks_onto s [] done = done
picks_onto s (k ∷ ks) done = picks_onto s ks (pick (has k s) k done)

-- a shape's kinds, latest first
unfoldable pub picks : Shape → List Kind
picks s = picks_onto s all_kinds []

-- each of the kinds ks that the shape has may follow those before it
data Follow (s : Shape) : List Kind → List Kind → Type 0 where
  follow_end : {done : List Kind} → Follow s [] done
  follow_kind
      : {k : Kind} {ks done : List Kind} → (has k s ≡ true → may_follow done k ≡ true) → Follow s ks (pick (has k s) k done)
      → Follow s (k ∷ ks) done

-- the word of a kind behind a space, where the test holds
unfoldable kind_part : Bool → Kind → Bytes
kind_part true k = bytes " " ++ kind_name k
kind_part false k = []

write_kinds_cons
    : (s : Shape) (k : Kind) (ks : List Kind) (r : Bytes)
    → write_kinds s (k ∷ ks) ++ r ≡ kind_part (has k s) k ++ (write_kinds s ks ++ r)
unfolding write_kinds kind_part
write_kinds_cons s k ks r = told (has k s) refl
  where
    told : (b : Bool) → has k s ≡ b → write_kinds s (k ∷ ks) ++ r ≡ kind_part (has k s) k ++ (write_kinds s ks ++ r)
    told true e = rw (e, write_kinds) (append_assoc (bytes " " ++ kind_name k) (write_kinds s ks) r)
    told false e = rw (e, write_kinds) refl

bordered_part : (b : Bool) (k : Kind) (r : Bytes) → Bordered r → Bordered (kind_part b k ++ r)
unfolding kind_part bytes
bordered_part true k r h = bordered_space (kind_name k ++ r)
bordered_part false k r h = h

pub bordered_kinds : (s : Shape) (ks : List Kind) (r : Bytes) → Bordered r → Bordered (write_kinds s ks ++ r)
unfolding write_kinds
bordered_kinds s [] r h = h
bordered_kinds s (k ∷ ks) r h =
    subst Bordered (sym (write_kinds_cons s k ks r)) (bordered_part (has k s) k (write_kinds s ks ++ r) (bordered_kinds s ks r h))

-- the parts with these kinds
unfoldable pub with_kinds : List Kind → Parts → Parts
with_kinds ks p = record { kinds = ks; element = p.element; fields = p.fields }

reads_part
    : (b : Bool) (k : Kind) (p : Parts) (o : Around) (l : Limits) (n : ℕ) (r : Bytes)
    → (b ≡ true → may_follow p.kinds k ≡ true) → Bordered r
    → Reads l n (want (kind_word p o)) (kind_part b k ++ r) n (want (kind_word (with_kinds (pick b k p.kinds) p) o)) r
unfolding kind_part bytes pick with_kinds with_kind
reads_part true k p o l n r h i =
    reads_then
    (reads_space l n (want (kind_word p o)) (kind_name k ++ r))
    (reads_word l n (kind_name k) r (kind_name_word k) i (steps_kind k p o (h refl)))
reads_part false k p o l n r h i = reads_nothing l n (want (kind_word p o)) r

-- the kind words that were written for ks
reads_kinds
    : (s : Shape) (ks : List Kind) (p : Parts) → Follow s ks p.kinds → (o : Around) (l : Limits) (n : ℕ) (r : Bytes)
    → Bordered r
    → Reads l n (want (kind_word p o)) (write_kinds s ks ++ r) n (want (kind_word (with_kinds (picks_onto s ks p.kinds) p) o)) r
unfolding write_kinds picks_onto with_kinds
reads_kinds s [] p follow_end o l n r i = reads_nothing l n (want (kind_word p o)) r
reads_kinds s (k ∷ ks) p (follow_kind h g) o l n r i =
    reads_from
    (write_kinds_cons s k ks r)
    (reads_then
    (reads_part (has k s) k p o l n (write_kinds s ks ++ r) h (bordered_kinds s ks r i))
    (reads_kinds s ks (with_kinds (pick (has k s) k p.kinds) p) g o l n r i))

-- ---- the order of the kind words

in_order_pick
    : (b : Bool) (j k : Kind) (ks : List Kind) → ltb (rank j) (rank k) ≡ true → in_order ks k ≡ true
    → in_order (pick b j ks) k ≡ true
unfolding in_order pick
in_order_pick true j k ks h i = h
in_order_pick false j k ks h i = i

-- a kind of higher rank than all of these comes behind those that the shape has
in_order_picks
    : (s : Shape) (k : Kind) (js ks : List Kind) → every (λ j. ltb (rank j) (rank k)) js ≡ true → in_order ks k ≡ true
    → in_order (picks_onto s js ks) k ≡ true
unfolding picks_onto every
in_order_picks s k [] ks h i = i
in_order_picks s k (j ∷ js) ks h i =
    in_order_picks s k js (pick (has j s) j ks) (and_right (ltb (rank j) (rank k)) _ h)
    (in_order_pick (has j s) j k ks (and_left (ltb (rank j) (rank k)) _ h) i)

-- int comes before dec
int_before_dec : (m : Numeric) (ks : List Kind) → has_dec m ≡ true → among Kind.int (pick (has_int m) Kind.int ks) ≡ true
unfolding has_dec has_int among pick rank
int_before_dec no_number ks h = absurd (false≢true h)
int_before_dec int_only ks h = absurd (false≢true h)
int_before_dec int_and_dec ks h = refl

-- the kinds of a shape, in the order of the paper, may follow one another
follow_all : (s : Shape) → Follow s all_kinds []
unfolding all_kinds may_follow has in_order rank every picks_onto
follow_all (shape n b m t e r) =
    let s = shape n b m t e r in
    follow_kind (λ h. and_intro (in_order_picks s Kind.null [] [] refl refl) refl)
    (follow_kind (λ h. and_intro (in_order_picks s Kind.bool (Kind.null ∷ []) [] refl refl) refl)
    (follow_kind (λ h. and_intro (in_order_picks s Kind.int (Kind.null ∷ Kind.bool ∷ []) [] refl refl) refl)
    (follow_kind (λ h. and_intro (in_order_picks s Kind.dec (Kind.null ∷ Kind.bool ∷ Kind.int ∷ []) [] refl refl) (int_before_dec m _ h))
    (follow_kind (λ h. and_intro (in_order_picks s Kind.text (Kind.null ∷ Kind.bool ∷ Kind.int ∷ Kind.dec ∷ []) [] refl refl) refl)
    (follow_kind (λ h. and_intro (in_order_picks s Kind.list (Kind.null ∷ Kind.bool ∷ Kind.int ∷ Kind.dec ∷ Kind.text ∷ []) [] refl refl) refl)
    (follow_kind (λ h. and_intro (in_order_picks s Kind.rec (Kind.null ∷ Kind.bool ∷ Kind.int ∷ Kind.dec ∷ Kind.text ∷ Kind.list ∷ []) [] refl refl) refl)
    follow_end))))))

-- the kind words of a shape
pub reads_all_kinds
    : (s : Shape) (p : Parts) → p.kinds ≡ [] → (o : Around) (l : Limits) (n : ℕ) (r : Bytes) → Bordered r
    → Reads l n (want (kind_word p o)) (write_kinds s all_kinds ++ r) n (want (kind_word (with_kinds (picks s) p) o)) r
unfolding picks
reads_all_kinds s p e o l n r i =
    subst
    (λ ks. Reads l n (want (kind_word p o)) (write_kinds s all_kinds ++ r) n (want (kind_word (with_kinds (picks_onto s all_kinds ks) p) o)) r)
    e
    (reads_kinds s all_kinds p (subst (Follow s all_kinds) (sym e) (follow_all s)) o l n r i)

-- ---- the kinds picked are those that the shape has

eqb_rank : (k : Kind) → eqb (rank k) (rank k) ≡ true
unfolding rank
eqb_rank Kind.null = refl
eqb_rank Kind.bool = refl
eqb_rank Kind.int = refl
eqb_rank Kind.dec = refl
eqb_rank Kind.text = refl
eqb_rank Kind.list = refl
eqb_rank Kind.rec = refl

among_pick_other : (k j : Kind) (b : Bool) (ks : List Kind) → eqb (rank k) (rank j) ≡ false → among k (pick b j ks) ≡ among k ks
unfolding among pick
among_pick_other k j true ks h = ap (λ x. x || among k ks) h
among_pick_other k j false ks h = refl

among_pick_same : (k : Kind) (b : Bool) (ks : List Kind) → among k ks ≡ false → among k (pick b k ks) ≡ b
unfolding among pick
among_pick_same k true ks h = ap (λ x. x || among k ks) (eqb_rank k)
among_pick_same k false ks h = h

among_picks_other
    : (k : Kind) (s : Shape) (js ks : List Kind) → among k js ≡ false → among k (picks_onto s js ks) ≡ among k ks
unfolding among picks_onto
among_picks_other k s [] ks h = refl
among_picks_other k s (j ∷ js) ks h =
    among_picks_other k s js (pick (has j s) j ks) (or_false_right (eqb (rank k) (rank j)) (among k js) h)
    ∙ among_pick_other k j (has j s) ks (or_false_left (eqb (rank k) (rank j)) (among k js) h)

picks_append
    : (s : Shape) (js ks done : List Kind) → picks_onto s (js ++ ks) done ≡ picks_onto s ks (picks_onto s js done)
unfolding picks_onto
picks_append s [] ks done = refl
picks_append s (j ∷ js) ks done = picks_append s js ks (pick (has j s) j done)

among_picks
    : (k : Kind) (s : Shape) (js ks : List Kind) → among k js ≡ false → among k ks ≡ false
    → among k (picks_onto s (js ++ k ∷ ks) []) ≡ has k s
unfolding picks_onto among
among_picks k s js ks h i =
    ap (among k) (picks_append s js (k ∷ ks) [])
    ∙ among_picks_other k s ks (pick (has k s) k (picks_onto s js [])) i
    ∙ among_pick_same k (has k s) (picks_onto s js []) (among_picks_other k s js [] h)

pub among_kinds : (k : Kind) (s : Shape) → among k (picks s) ≡ has k s
unfolding picks all_kinds among rank
among_kinds Kind.null s =
    among_picks Kind.null s [] (Kind.bool ∷ Kind.int ∷ Kind.dec ∷ Kind.text ∷ Kind.list ∷ Kind.rec ∷ []) refl refl
among_kinds Kind.bool s =
    among_picks Kind.bool s (Kind.null ∷ []) (Kind.int ∷ Kind.dec ∷ Kind.text ∷ Kind.list ∷ Kind.rec ∷ []) refl refl
among_kinds Kind.int s =
    among_picks Kind.int s (Kind.null ∷ Kind.bool ∷ []) (Kind.dec ∷ Kind.text ∷ Kind.list ∷ Kind.rec ∷ []) refl refl
among_kinds Kind.dec s =
    among_picks Kind.dec s (Kind.null ∷ Kind.bool ∷ Kind.int ∷ []) (Kind.text ∷ Kind.list ∷ Kind.rec ∷ []) refl refl
among_kinds Kind.text s =
    among_picks Kind.text s (Kind.null ∷ Kind.bool ∷ Kind.int ∷ Kind.dec ∷ []) (Kind.list ∷ Kind.rec ∷ []) refl refl
among_kinds Kind.list s =
    among_picks Kind.list s (Kind.null ∷ Kind.bool ∷ Kind.int ∷ Kind.dec ∷ Kind.text ∷ []) (Kind.rec ∷ []) refl refl
among_kinds Kind.rec s =
    among_picks Kind.rec s (Kind.null ∷ Kind.bool ∷ Kind.int ∷ Kind.dec ∷ Kind.text ∷ Kind.list ∷ []) [] refl refl

-- ---- the shape of its parts

numeric_back
    : (m : Numeric) (ks : List Kind) → among Kind.dec ks ≡ has_dec m → among Kind.int ks ≡ has_int m → numeric_from ks ≡ m
unfolding numeric_from has_dec has_int
numeric_back no_number ks d i = rw (d, i, numeric_from) refl
numeric_back int_only ks d i = rw (d, i, numeric_from) refl
numeric_back int_and_dec ks d i = rw (d, numeric_from) refl

-- members put latest first before gs, and turned again
fields_back : (fs gs : Fields) → fields_onto (fields_onto fs gs) no_fields ≡ fields_onto gs fs
unfolding fields_onto
fields_back no_fields gs = refl
fields_back (field n s fs) gs = fields_back fs (field n s gs)

-- the members that there are
unfoldable pub fields_in : Record → Fields
fields_in no_rec = no_fields
fields_in (rec_of fs) = fs

-- what has been read of a shape where its last bracket comes
unfoldable pub parts_of : Shape → Parts
parts_of (shape n b m t e r) =
    record { kinds = picks (shape n b m t e r); element = e; fields = fields_onto (fields_in r) no_fields }

record_back : (r : Record) (p : Parts) → among Kind.rec p.kinds ≡ has_rec r → p.fields ≡ fields_onto (fields_in r) no_fields → record_from p ≡ r
unfolding record_from has_rec fields_in fields_onto
record_back no_rec p h i = rw (h, record_from) refl
record_back (rec_of fs) p h i =
    rw (h, record_from) (ap (λ gs. rec_of (fields_onto gs no_fields)) i ∙ ap rec_of (fields_back fs no_fields))

pub build_back : (s : Shape) → build (parts_of s) ≡ s
unfolding build parts_of has
build_back (shape n b m t e r) =
    let s = shape n b m t e r in
    λ i.
    shape
    (among_kinds Kind.null s i)
    (among_kinds Kind.bool s i)
    (numeric_back m (picks s) (among_kinds Kind.dec s) (among_kinds Kind.int s) i)
    (among_kinds Kind.text s i)
    e
    (record_back r (parts_of s) (among_kinds Kind.rec s) refl i)
