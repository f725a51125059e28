-- Checking a good reader against a good shape gives a good shape. Assumes nothing.
use Rattle.std.specs.Prelude.{ℕ, zero, suc, ◌≡◌, refl, Bool, true, false, List, [], ◌∷◌, get_or}
use Rattle.std.proofs.Common.{subst}
use Rattle.std.proofs.Math.Option.{Option, none, some, none-ne-some, some-injective}
use Rattle.definitions.specs.Bytes.{Bytes, same}
use Rattle.definitions.specs.Outcome.{Outcome, ok, refused}
use Rattle.definitions.specs.Shape.{Kind, Shape, Element, Record, Fields, nothing, has, within, element_of}
use Rattle.definitions.specs.Shape.{record_of, find, only_bool, only_numeric, only_text, only_list, only_rec}
use Rattle.definitions.specs.Reader.{Place, Conversion, to_int, to_dec, to_bool, to_text, Test, Result, Pairs}
use Rattle.definitions.specs.Checking.{wants, listed, gain_null, field_shape, field_kinds, list_kinds, if_kinds, convert_kinds, convert_shape}
use Rattle.definitions.specs.Checking.{element_shape, stay_element, stay_record, stay, cut_to, taken_out, check_place, check, check_pairs, check_reader}
use Rattle.laws.specs.Good.{GoodShape, good_shape, GoodElement, good_no_list, good_list_of, GoodRecord, good_no_rec}
use Rattle.laws.specs.Good.{good_rec_of, GoodFields, good_no_fields, good_field, GoodReader, good_convert, good_keep, good_count}
use Rattle.laws.specs.Good.{good_each, good_when, good_choose, good_literal, good_pack, GoodPairs, good_no_pairs, good_pair}
use Rattle.laws.specs.RoundGood.{with_null_good, join_good, nothing_good, insert_good, shape_of_good}
use Rattle.laws.proofs.RoundOutcome.{Gives, gives_ok, gives_refused, gives_holds, gives_then, gives_if}

-- ---- checking

-- the shapes of the bindings are good
data GoodShapes : List Shape → Type 0 where
  good_no_shapes : GoodShapes []
  good_shape_then : {s : Shape} {env : List Shape} → GoodShape s → GoodShapes env → GoodShapes (s ∷ env)

get_or_good : {env : List Shape} → GoodShapes env → (n : ℕ) → GoodShape (get_or env n nothing)
get_or_good good_no_shapes n = nothing_good
get_or_good (good_shape_then g h) zero = g
get_or_good (good_shape_then g h) (suc n) = get_or_good h n

element_of_good : {s : Shape} → GoodShape s → GoodElement (element_of s)
unfolding element_of
element_of_good (good_shape e r) = e

record_of_good : {s : Shape} → GoodShape s → GoodRecord (record_of s)
unfolding record_of
record_of_good (good_shape e r) = r

element_shape_good : {e : Element} → GoodElement e → GoodShape (element_shape e)
unfolding element_shape
element_shape_good good_no_list = nothing_good
element_shape_good (good_list_of s) = s

stay_good : (kept : Kind → Bool) {s : Shape} → GoodShape s → GoodShape (stay kept s)
unfolding stay stay_element stay_record
stay_good kept (good_shape e r) = good_shape (element (kept Kind.list) e) (members (kept Kind.rec) r)
  where
    element : (k : Bool) {e : Element} → GoodElement e → GoodElement (stay_element k e)
    element true g = g
    element false g = good_no_list

    members : (k : Bool) {r : Record} → GoodRecord r → GoodRecord (stay_record k r)
    members true g = g
    members false g = good_no_rec

cut_to_good : (k : Test) {s : Shape} → GoodShape s → GoodShape (cut_to k s)
unfolding cut_to
cut_to_good k g = stay_good _ g

taken_out_good : (k : Test) {s : Shape} → GoodShape s → GoodShape (taken_out k s)
unfolding taken_out
taken_out_good k g = stay_good _ g

convert_shape_good : (c : Conversion) → GoodShape (convert_shape c)
unfolding convert_shape only_numeric only_bool only_text
convert_shape_good to_int = good_shape good_no_list good_no_rec
convert_shape_good to_dec = good_shape good_no_list good_no_rec
convert_shape_good to_bool = good_shape good_no_list good_no_rec
convert_shape_good to_text = good_shape good_no_list good_no_rec

wants_gives
    : {A : Type 0} {R : A → Type 0} (at : ℕ) (ks : List Kind) (s : Shape) {out : Outcome ℕ A} → Gives R out
    → Gives R (wants at ks s out)
unfolding wants
wants_gives at ks s g = gives_if (within ks s) g gives_refused

find_good : (n : Bytes) {fs : Fields} → GoodFields fs → (t : Shape) → find n fs ≡ some t → GoodShape t
unfolding find
find_good n good_no_fields t e = absurd (none-ne-some t e)
find_good n (good_field {n = m} {s} {fs} u g h) t e = told (same n m) e (find_good n h t)
  where
    told
        : (b : Bool) → elim b as (λ x. Option Shape) [ true ↦ some s | false ↦ find n fs ] ≡ some t
        → (find n fs ≡ some t → GoodShape t) → GoodShape t
    told true k i = subst GoodShape (some-injective s t k) g
    told false k i = i k

listed_gives : (at : ℕ) (n : Bytes) {r : Record} → GoodRecord r → Gives GoodShape (listed at n r)
unfolding listed
listed_gives at n good_no_rec = gives_refused
listed_gives at n (good_rec_of {fs} g) = told (find n fs) (find_good n g)
  where
    told
        : (o : Option Shape) → ((t : Shape) → o ≡ some t → GoodShape t)
        → Gives {P = ℕ} GoodShape (elim o as (λ x. Outcome ℕ Shape) [ none ↦ refused 10 at | some s ↦ ok s ])
    told none h = gives_refused
    told (some s) h = gives_ok (h s refl)

gain_good : (b : Bool) {s : Shape} → GoodShape s → GoodShape (gain_null b s)
unfolding gain_null
gain_good true g = with_null_good g
gain_good false g = g

check_place_gives : (p : Place) (env : List Shape) → GoodShapes env → Gives GoodShape (check_place p env)
unfolding check_place field_shape
check_place_gives (Place.it at n) env g = gives_ok (get_or_good g n)
check_place_gives (Place.field at n p) env g =
    gives_then (check_place_gives p env g) λ s h.
    wants_gives at field_kinds s (gives_then (listed_gives at n (record_of_good h)) λ t k. gives_ok (gain_good (has Kind.null s) k))

mutual
  unfolding check only_numeric only_list only_rec

  check_gives : {r : Result} → GoodReader r → (env : List Shape) → GoodShapes env → Gives GoodShape (check r env)
  check_gives (good_convert {at} {c} {p} g) env h =
      gives_then (check_place_gives p env h) (λ s k. wants_gives at (convert_kinds c) s (gives_ok (convert_shape_good c)))
  check_gives (good_keep {at} {p} g) env h = check_place_gives p env h
  check_gives (good_count {at} {p} g) env h =
      gives_then (check_place_gives p env h) (λ s k. wants_gives at list_kinds s (gives_ok (good_shape good_no_list good_no_rec)))
  check_gives (good_each {at} {p} {r} g i) env h =
      gives_then (check_place_gives p env h)
      (λ s k.
      gives_then (check_gives i (element_shape (element_of s) ∷ env) (good_shape_then (element_shape_good (element_of_good k)) h))
      (λ t j. wants_gives at list_kinds s (gives_ok (good_shape (good_list_of j) good_no_rec))))
  check_gives (good_when {at} {k} {p} {r₁} {r₂} g i₁ i₂) env h =
      gives_then (check_place_gives p env h)
      (λ s j.
      gives_then (check_gives i₁ (cut_to k s ∷ env) (good_shape_then (cut_to_good k j) h))
      (λ t₁ j₁.
      gives_then (check_gives i₂ (taken_out k s ∷ env) (good_shape_then (taken_out_good k j) h))
      (λ t₂ j₂. gives_ok (join_good t₁ t₂ j₁ j₂))))
  check_gives (good_choose {at} i₁ i₂ i₃) env h =
      gives_then (check_gives i₁ env h)
      (λ t₁ j₁.
      gives_then (check_gives i₂ env h)
      (λ t₂ j₂. gives_then (check_gives i₃ env h) (λ t₃ j₃. wants_gives at if_kinds t₁ (gives_ok (join_good t₂ t₃ j₂ j₃)))))
  check_gives (good_literal {v} g) env h = gives_ok (shape_of_good v g)
  check_gives (good_pack ps) env h =
      gives_then (check_pairs_give ps env h) (λ fs k. gives_ok (good_shape good_no_list (good_rec_of k)))

  check_pairs_give : {ps : Pairs} → GoodPairs ps → (env : List Shape) → GoodShapes env → Gives GoodFields (check_pairs ps env)
  check_pairs_give good_no_pairs env h = gives_ok good_no_fields
  check_pairs_give (good_pair u r ps) env h =
      gives_then (check_gives r env h)
      (λ s k. gives_then (check_pairs_give ps env h) (λ fs i. gives_ok (insert_good u k i)))

-- the result shape of a good reader on a good shape is good
pub check_good : (r : Result) (s u : Shape) → GoodReader r → GoodShape s → check_reader r s ≡ ok u → GoodShape u
unfolding check_reader
check_good r s u g h e = gives_holds e (check_gives g (s ∷ []) (good_shape_then h good_no_shapes))
