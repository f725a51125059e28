-- Kinds: an admitted value has a kind that the shape has, so a kind that the form wants; and what conversions, items and
-- the branches of `when` admit. Assumes nothing.
use Rattle.std.specs.Prelude.{ℕ, ◌≡◌, refl, Bool, true, false, not, ◌&&◌, ◌||◌, List, [], ◌∷◌, T, eqb, get_or}
use Rattle.std.proofs.Common.{sym, ◌∙◌, ap, subst, ⊎_elim, eqb→eq}
use Rattle.std.proofs.lemmas.Bool.{false≢true}
use Rattle.std.proofs.Math.Option.{none, some}
use Rattle.definitions.specs.Number.{Number, is_int, whole}
use Rattle.definitions.specs.Outcome.{Outcome, refused}
use Rattle.definitions.specs.Value.{Value}
use Rattle.definitions.specs.Shape.{Kind, all_kinds, rank, among, every, Numeric, no_number, int_only, int_and_dec, Shape, shape, Element}
use Rattle.definitions.specs.Shape.{no_list, list_of, Record, no_rec, rec_of, has, has_int, has_dec, has_list, has_rec, within, element_of}
use Rattle.definitions.specs.Shape.{record_of, ascending, ascending_element, ascending_record, only_numeric, only_bool, only_text}
use Rattle.definitions.specs.Admits.{kind_of, missing_have_null, admits, admitted, admitted_items, admitted_members}
use Rattle.definitions.specs.Reader.{Conversion, to_int, to_dec, to_bool, to_text, Test}
use Rattle.definitions.specs.Checking.{convert_kinds, if_kinds, convert_shape, element_shape, test_kinds}
use Rattle.definitions.specs.Checking.{stay_numeric, stay_element, stay_record, stay, cut_to, taken_out}
use Rattle.definitions.specs.Running.{whole_value, converted, items_of, int_value, truth}
use Rattle.laws.specs.Bools.{and_left, and_right, and_intro, or_cases, clash, implied}
use Rattle.laws.specs.Ints.{unscaled_int, int_number, whole_int}
use Rattle.laws.specs.SoundHolds.{Holds}

-- ---- seven kinds

-- a claim for each of the seven is a claim for all
by_kind
    : (P : Kind → Type 0) → P Kind.null → P Kind.bool → P Kind.int → P Kind.dec → P Kind.text → P Kind.list → P Kind.rec
    → (k : Kind) → P k
by_kind P a b c d e f g Kind.null = a
by_kind P a b c d e f g Kind.bool = b
by_kind P a b c d e f g Kind.int = c
by_kind P a b c d e f g Kind.dec = d
by_kind P a b c d e f g Kind.text = e
by_kind P a b c d e f g Kind.list = f
by_kind P a b c d e f g Kind.rec = g

-- a kind's place tells which it is
unranked : (k : Kind) → get_or all_kinds (rank k) Kind.null ≡ k
unfolding all_kinds rank
unranked = by_kind (λ k. get_or all_kinds (rank k) Kind.null ≡ k) refl refl refl refl refl refl refl

known : (k : Kind) → among k all_kinds ≡ true
unfolding all_kinds rank among
known = by_kind (λ k. among k all_kinds ≡ true) refl refl refl refl refl refl refl

-- ---- the kind of an admitted value

-- a number is an int or a decimal
pub number_kind : (P : Kind → Type 0) (x : Number) → P Kind.int → P Kind.dec → P (kind_of (Value.number x))
unfolding kind_of
number_kind P x a b = go (is_int x)
  where
    go : (i : Bool) → P (elim i [ true ↦ Kind.int | false ↦ Kind.dec ])
    go true = a
    go false = b

-- the shape has it
pub admits_kind : (v : Value) (s : Shape) → admits s v ≡ true → has (kind_of v) s ≡ true
unfolding admits admitted kind_of has has_list has_rec element_of record_of
admits_kind Value.null s h = h
admits_kind (Value.bool b) s h = h
admits_kind (Value.number x) s h = h
admits_kind (Value.text t) s h = h
admits_kind (Value.list vs) (shape n b m t no_list r) h = h
admits_kind (Value.list vs) (shape n b m t (list_of e) r) h = refl
admits_kind (Value.rec ms) (shape n b m t e no_rec) h = h
admits_kind (Value.rec ms) (shape n b m t e (rec_of fs)) h = refl

-- a shape without list and rec admits what has one of its kinds
admits_flat
    : (v : Value) (s : Shape) → has (kind_of v) s ≡ true → has Kind.list s ≡ false → has Kind.rec s ≡ false
    → admits s v ≡ true
unfolding admits admitted kind_of
admits_flat Value.null s h p q = h
admits_flat (Value.bool b) s h p q = h
admits_flat (Value.number x) s h p q = h
admits_flat (Value.text t) s h p q = h
admits_flat (Value.list vs) s h p q = clash h p
admits_flat (Value.rec ms) s h p q = clash h q

rank_injective : (j k : Kind) → rank j ≡ rank k → j ≡ k
rank_injective j k e = sym (unranked j) ∙ ap (λ n. get_or all_kinds n Kind.null) e ∙ unranked k

same_rank : (j k : Kind) → eqb (rank j) (rank k) ≡ true → j ≡ k
same_rank j k e = rank_injective j k (eqb→eq (rank j) (rank k) (subst T (sym e) tt))

every_among : (p : Kind → Bool) (ks : List Kind) (k : Kind) → every p ks ≡ true → among k ks ≡ true → p k ≡ true
unfolding every among
every_among p [] k h a = absurd (false≢true a)
every_among p (j ∷ js) k h a =
    ⊎_elim
    (λ e. ap p (same_rank k j e) ∙ and_left (p j) (every p js) h)
    (λ a'. every_among p js k (and_right (p j) (every p js) h) a')
    (or_cases (eqb (rank k) (rank j)) (among k js) a)

every_kind : (p : Kind → Bool) → every p all_kinds ≡ true → (k : Kind) → p k ≡ true
every_kind p h k = every_among p all_kinds k h (known k)

-- a kind of the shape is among those that its kinds are within
within_has : (ks : List Kind) (s : Shape) (k : Kind) → within ks s ≡ true → has k s ≡ true → among k ks ≡ true
unfolding within
within_has ks s k w h = implied (has k s) (among k ks) (every_kind (λ j. not (has j s) || among j ks) w k) h

-- an admitted value's kind is among those that the shape's kinds are within
pub within_kind
    : (ks : List Kind) (s : Shape) (v : Value) → within ks s ≡ true → admits s v ≡ true → among (kind_of v) ks ≡ true
within_kind ks s v w h = within_has ks s (kind_of v) w (admits_kind v s h)

-- ---- conversions

convert_has : (c : Conversion) (k : Kind) → among k (convert_kinds c) ≡ true → has k (convert_shape c) ≡ true
unfolding every all_kinds among rank convert_kinds convert_shape only_numeric only_bool only_text has has_int has_dec has_list has_rec
convert_has c k h =
    implied
    (among k (convert_kinds c))
    (has k (convert_shape c))
    (every_kind (λ j. not (among j (convert_kinds c)) || has j (convert_shape c)) (go c) k)
    h
  where
    go : (c : Conversion) → every (λ j. not (among j (convert_kinds c)) || has j (convert_shape c)) all_kinds ≡ true
    go to_int = refl
    go to_dec = refl
    go to_bool = refl
    go to_text = refl

convert_flat : (c : Conversion) → (has Kind.list (convert_shape c) ≡ false) × (has Kind.rec (convert_shape c) ≡ false)
unfolding convert_shape only_numeric only_bool only_text has has_list has_rec
convert_flat to_int = (refl, refl)
convert_flat to_dec = (refl, refl)
convert_flat to_bool = (refl, refl)
convert_flat to_text = (refl, refl)

handed_admits
    : (c : Conversion) (v : Value) → among (kind_of v) (convert_kinds c) ≡ true → admits (convert_shape c) v ≡ true
handed_admits c v h = admits_flat v (convert_shape c) (convert_has c (kind_of v) h) (convert_flat c).0 (convert_flat c).1

-- a number that is an int is admitted by int
pub int_admits : (x : Number) → is_int x ≡ true → admits (only_numeric int_only) (Value.number x) ≡ true
unfolding admits admitted kind_of only_numeric has has_int
int_admits x h = rw (h, kind_of) refl

-- "`int`, `bool`, `text` want kinds within their own and give it; `dec` .. gives both"
pub convert_admits
    : (c : Conversion) (v : Value) → among (kind_of v) (convert_kinds c) ≡ true → admits (convert_shape c) (converted c v) ≡ true
unfolding converted whole_value convert_shape convert_kinds
convert_admits to_int v h =
    int_number (λ (w : Value). admits (only_numeric int_only) (whole_value w) ≡ true) v h (λ x i. int_admits (whole x) (whole_int x))
convert_admits to_dec v h = handed_admits to_dec v h
convert_admits to_bool v h = handed_admits to_bool v h
convert_admits to_text v h = handed_admits to_text v h

-- ---- lists and conditions

-- a count is an int
pub count_admits : (n : ℕ) → admits (only_numeric int_only) (int_value n) ≡ true
unfolding int_value
count_admits n = int_admits (record { negative = false; coefficient = n; scale = 0 }) (unscaled_int _ refl)

-- "(the element is nothing where list is absent)"; "Null .. gives the empty list under `each`"
pub items_admitted
    : (v : Value) (s : Shape) → admits s v ≡ true → admitted_items (items_of v) (element_shape (element_of s)) ≡ true
unfolding admits admitted items_of element_of element_shape
items_admitted Value.null s h = refl
items_admitted (Value.bool b) s h = refl
items_admitted (Value.number x) s h = refl
items_admitted (Value.text t) s h = refl
items_admitted (Value.list vs) (shape n b m t no_list r) h = absurd (false≢true h)
items_admitted (Value.list vs) (shape n b m t (list_of e) r) h = h
items_admitted (Value.rec ms) s h = refl

-- a condition that is a bool takes one of both branches
pub holds_condition
    : {A : Type 0} {R : ℕ → Type 0} {P : A → Type 0} {x y : Outcome ℕ A} (at : ℕ) (v : Value)
    → among (kind_of v) if_kinds ≡ true → Holds R P x → Holds R P y
    → Holds R P (elim (truth v) [ none ↦ refused 12 at | some b ↦ elim b [ true ↦ x | false ↦ y ] ])
unfolding truth kind_of among rank if_kinds
holds_condition at Value.null e h k = absurd (false≢true e)
holds_condition at (Value.bool true) e h k = h
holds_condition at (Value.bool false) e h k = k
holds_condition at (Value.number x) e h k =
    absurd (number_kind (λ j. among j if_kinds ≡ true → ⊥) x false≢true false≢true e)
holds_condition at (Value.text t) e h k = absurd (false≢true e)
holds_condition at (Value.list vs) e h k = absurd (false≢true e)
holds_condition at (Value.rec ms) e h k = absurd (false≢true e)

-- ---- the branches of `when`

-- of values of a kind the two shapes admit the same
abbrev Alike : Kind → Shape → Shape → Type 0
Alike Kind.null s t = has Kind.null s ≡ has Kind.null t
Alike Kind.bool s t = has Kind.bool s ≡ has Kind.bool t
Alike Kind.int s t = has Kind.int s ≡ has Kind.int t
Alike Kind.dec s t = has Kind.dec s ≡ has Kind.dec t
Alike Kind.text s t = has Kind.text s ≡ has Kind.text t
Alike Kind.list s t = element_of s ≡ element_of t
Alike Kind.rec s t = record_of s ≡ record_of t

alike_admits : (v : Value) (s t : Shape) → Alike (kind_of v) s t → admits s v ≡ true → admits t v ≡ true
unfolding admits admitted kind_of
alike_admits Value.null s t e h = sym e ∙ h
alike_admits (Value.bool b) s t e h = sym e ∙ h
alike_admits (Value.number x) s t e h =
    number_kind (λ k. Alike k s t → has k s ≡ true → has k t ≡ true) x (λ e h. sym e ∙ h) (λ e h. sym e ∙ h) e h
alike_admits (Value.text x) s t e h = sym e ∙ h
alike_admits (Value.list vs) s t e h =
    subst (λ (x : Element). elim x [ no_list ↦ false | list_of e ↦ admitted_items vs e ] ≡ true) e h
alike_admits (Value.rec ms) s t e h =
    subst (λ (x : Record). elim x [ no_rec ↦ false | rec_of fs ↦ admitted_members ms fs && missing_have_null ms fs ] ≡ true) e h

-- where int stays, int is as it was; where dec stays, dec is
stay_int : (d : Bool) (m : Numeric) → has_int m ≡ has_int (stay_numeric true d m)
unfolding stay_numeric has_int
stay_int d no_number = refl
stay_int d int_only = refl
stay_int true int_and_dec = refl
stay_int false int_and_dec = refl

stay_dec : (i : Bool) (m : Numeric) → has_dec m ≡ has_dec (stay_numeric i true m)
unfolding stay_numeric has_dec
stay_dec i no_number = refl
stay_dec true int_only = refl
stay_dec false int_only = refl
stay_dec true int_and_dec = refl
stay_dec false int_and_dec = refl

-- of values of a kind that stays, the shape admits what it did
stay_alike : (kept : Kind → Bool) (s : Shape) (k : Kind) → kept k ≡ true → Alike k s (stay kept s)
unfolding stay has element_of record_of stay_element stay_record
stay_alike kept (shape n b m t e r) =
    by_kind (λ k. kept k ≡ true → Alike k (shape n b m t e r) (stay kept (shape n b m t e r)))
    (λ h. ap (λ x. x && n) (sym h))
    (λ h. ap (λ x. x && b) (sym h))
    (λ h. stay_int (kept Kind.dec) m ∙ ap (λ x. has_int (stay_numeric x (kept Kind.dec) m)) (sym h))
    (λ h. stay_dec (kept Kind.int) m ∙ ap (λ x. has_dec (stay_numeric (kept Kind.int) x m)) (sym h))
    (λ h. ap (λ x. x && t) (sym h))
    (λ h. ap (λ x. stay_element x e) (sym h))
    (λ h. ap (λ x. stay_record x r) (sym h))

stay_admits : (kept : Kind → Bool) (s : Shape) (v : Value) → admits s v ≡ true → kept (kind_of v) ≡ true → admits (stay kept s) v ≡ true
stay_admits kept s v h e = alike_admits v s (stay kept s) (stay_alike kept s (kind_of v) e) h

-- "`when` takes its first R where the value is a K": the shape cut to K admits it
pub cut_admits
    : (t : Test) (s : Shape) (v : Value) → admits s v ≡ true → among (kind_of v) (test_kinds t) ≡ true
    → admits (cut_to t s) v ≡ true
unfolding cut_to
cut_admits t s v h e = stay_admits _ s v h e

-- else "K's kinds taken out" admit it
pub taken_admits
    : (t : Test) (s : Shape) (v : Value) → admits s v ≡ true → among (kind_of v) (test_kinds t) ≡ false
    → admits (taken_out t s) v ≡ true
unfolding taken_out
taken_admits t s v h e = stay_admits _ s v h (ap not e)

stay_ascending : (kept : Kind → Bool) (s : Shape) → ascending s ≡ true → ascending (stay kept s) ≡ true
unfolding stay stay_element stay_record ascending
stay_ascending kept (shape n b m t e r) h =
    and_intro
    (element (kept Kind.list) (and_left (ascending_element e) (ascending_record r) h))
    (members (kept Kind.rec) (and_right (ascending_element e) (ascending_record r) h))
  where
    element : (k : Bool) → ascending_element e ≡ true → ascending_element (stay_element k e) ≡ true
    element true g = g
    element false g = refl

    members : (k : Bool) → ascending_record r ≡ true → ascending_record (stay_record k r) ≡ true
    members true g = g
    members false g = refl

pub cut_ascending : (t : Test) (s : Shape) → ascending s ≡ true → ascending (cut_to t s) ≡ true
unfolding cut_to
cut_ascending t s h = stay_ascending _ s h

pub taken_ascending : (t : Test) (s : Shape) → ascending s ≡ true → ascending (taken_out t s) ≡ true
unfolding taken_out
taken_ascending t s h = stay_ascending _ s h
