-- The join is the least upper bound of two shapes, hence commutative, associative and idempotent; names ascend in it and
-- in the shape of a value. Assumes nothing.
use Rattle.std.specs.Prelude.{◌≡◌, refl, true}
use Rattle.std.proofs.Math.Bool.{or-true, or-false}
use Rattle.definitions.specs.Value.{Value, Items, no_items, item, Members, no_members, member}
use Rattle.definitions.specs.Shape.{Numeric, no_number, int_only, int_and_dec, Shape, shape, Element, no_list, list_of, Record, no_rec, rec_of}
use Rattle.definitions.specs.Shape.{nothing, only_null, only_bool, only_numeric, only_text, only_list, only_rec, ascending, ascending_fields}
use Rattle.definitions.specs.Order.{below}
use Rattle.definitions.specs.Join.{with_null, join, join_numeric, join_element, join_record, shape_of, join_items, fields_of}
use Rattle.laws.specs.Bools.{and_intro}
use Rattle.laws.specs.FieldsPut.{insert_ascending}
use Rattle.laws.specs.OrderLaws.{below_refl, below_trans, below_antisym}
pub use Rattle.laws.specs.JoinParts.{join_ascending}
pub use Rattle.laws.specs.JoinUpper.{join_upper_left, join_upper_right, join_least}

-- ---- nothing

pub nothing_ascending : ascending nothing ≡ true
unfolding ascending nothing
nothing_ascending = refl

pub join_nothing_left : (s : Shape) → join nothing s ≡ s
unfolding join nothing join_numeric
join_nothing_left (shape n b m t e r) = refl

pub numeric_nothing : (m : Numeric) → join_numeric m no_number ≡ m
unfolding join_numeric
numeric_nothing no_number = refl
numeric_nothing int_only = refl
numeric_nothing int_and_dec = refl

pub element_nothing : (e : Element) → join_element e no_list ≡ e
unfolding join
element_nothing no_list = refl
element_nothing (list_of a) = refl

pub record_nothing : (r : Record) → join_record r no_rec ≡ r
unfolding join
record_nothing no_rec = refl
record_nothing (rec_of fs) = refl

pub join_nothing_right : (s : Shape) → join s nothing ≡ s
unfolding join nothing
join_nothing_right (shape n b m t e r) =
    λ i.
    shape (or-false n i) (or-false b i) (numeric_nothing m i) (or-false t i) (element_nothing e i) (record_nothing r i)

pub join_null : (s : Shape) → join s only_null ≡ with_null s
unfolding join only_null with_null
join_null (shape n b m t e r) =
    λ i. shape (or-true n i) (or-false b i) (numeric_nothing m i) (or-false t i) (element_nothing e i) (record_nothing r i)

-- ---- a lattice

-- the join grows with both
pub join_mono
    : (s t s' t' : Shape) → ascending s ≡ true → ascending t ≡ true → ascending s' ≡ true → ascending t' ≡ true
    → below s s' ≡ true → below t t' ≡ true → below (join s t) (join s' t') ≡ true
join_mono s t s' t' i j i' j' v w =
    let k : ascending (join s' t') ≡ true = join_ascending s' t' i' j' in
    join_least
    s
    t
    (join s' t')
    i
    j
    k
    (below_trans s s' (join s' t') i i' k v (join_upper_left s' t' i' j'))
    (below_trans t t' (join s' t') j j' k w (join_upper_right s' t' i' j'))

-- what is below adds nothing
pub join_absorbs : (s t : Shape) → ascending s ≡ true → ascending t ≡ true → below s t ≡ true → join s t ≡ t
join_absorbs s t i j v =
    below_antisym
    (join s t)
    t
    (join_ascending s t i j)
    j
    (join_least s t t i j j v (below_refl t j))
    (join_upper_right s t i j)

pub join_idem : (s : Shape) → ascending s ≡ true → join s s ≡ s
join_idem s i = join_absorbs s s i i (below_refl s i)

comm_below : (s t : Shape) → ascending s ≡ true → ascending t ≡ true → below (join s t) (join t s) ≡ true
comm_below s t i j =
    join_least s t (join t s) i j (join_ascending t s j i) (join_upper_right t s j i) (join_upper_left t s j i)

pub join_comm : (s t : Shape) → ascending s ≡ true → ascending t ≡ true → join s t ≡ join t s
join_comm s t i j =
    below_antisym
    (join s t)
    (join t s)
    (join_ascending s t i j)
    (join_ascending t s j i)
    (comm_below s t i j)
    (comm_below t s j i)

-- each of three shapes is below their join, however bracketed
pub join_assoc
    : (s t u : Shape) → ascending s ≡ true → ascending t ≡ true → ascending u ≡ true → join (join s t) u ≡ join s (join t u)
join_assoc s t u i j k =
    let p : ascending (join s t) ≡ true = join_ascending s t i j in
    let q : ascending (join t u) ≡ true = join_ascending t u j k in
    let x : ascending (join (join s t) u) ≡ true = join_ascending (join s t) u p k in
    let y : ascending (join s (join t u)) ≡ true = join_ascending s (join t u) i q in
    below_antisym
    (join (join s t) u)
    (join s (join t u))
    x
    y
    (join_least
    (join s t)
    u
    (join s (join t u))
    p
    k
    y
    (join_mono s t s (join t u) i j i q (below_refl s i) (join_upper_left t u j k))
    (below_trans
    u
    (join t u)
    (join s (join t u))
    k
    q
    y
    (join_upper_right t u j k)
    (join_upper_right s (join t u) i q)))
    (join_least
    s
    (join t u)
    (join (join s t) u)
    i
    q
    x
    (below_trans
    s
    (join s t)
    (join (join s t) u)
    i
    p
    x
    (join_upper_left s t i j)
    (join_upper_left (join s t) u p k))
    (join_mono t u (join s t) u j k p k (join_upper_right s t i j) (below_refl u k)))

-- ---- the shape of a value

mutual
  unfolding shape_of ascending only_null only_bool only_numeric only_text only_list only_rec

  pub shape_of_ascending : (v : Value) → ascending (shape_of v) ≡ true
  shape_of_ascending Value.null = refl
  shape_of_ascending (Value.bool b) = refl
  shape_of_ascending (Value.number x) = refl
  shape_of_ascending (Value.text t) = refl
  shape_of_ascending (Value.list vs) = and_intro (join_items_ascending vs nothing nothing_ascending) refl
  shape_of_ascending (Value.rec ms) = fields_of_ascending ms

  pub join_items_ascending : (vs : Items) (s : Shape) → ascending s ≡ true → ascending (join_items vs s) ≡ true
  join_items_ascending no_items s h = h
  join_items_ascending (item v vs) s h =
      join_items_ascending vs (join s (shape_of v)) (join_ascending s (shape_of v) h (shape_of_ascending v))

  pub fields_of_ascending : (ms : Members) → ascending_fields (fields_of ms) ≡ true
  fields_of_ascending no_members = refl
  fields_of_ascending (member n v ms) =
      insert_ascending n (shape_of v) (fields_of ms) (shape_of_ascending v) (fields_of_ascending ms)
