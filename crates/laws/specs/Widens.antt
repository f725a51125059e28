-- Request Q-13: a reader that passes against a shape and against one above it has its first result shape below the second, and one that no
-- longer passes above is refused with 9. The forms of checking, each beside itself. Assumes nothing.
use Rattle.std.specs.Prelude.{ℕ, zero, suc, ◌≡◌, refl, Bool, true, false, List, [], ◌∷◌, get_or}
use Rattle.std.proofs.Common.{subst}
use Rattle.std.proofs.Math.Option.{Option, none, some}
use Rattle.definitions.specs.Bytes.{Bytes}
use Rattle.definitions.specs.Outcome.{Outcome, ok, refused, ◌>>=◌}
use Rattle.definitions.specs.Shape.{Kind, int_only, Shape, Record, no_rec, rec_of, nothing, has, within, record_of, find, only_numeric}
use Rattle.definitions.specs.Shape.{ascending, ascending_record}
use Rattle.definitions.specs.Order.{below}
use Rattle.definitions.specs.Join.{shape_of}
use Rattle.definitions.specs.Reader.{Place, Conversion, Result, Pairs, no_pairs, pair}
use Rattle.definitions.specs.Checking.{field_kinds, convert_kinds, list_kinds, if_kinds, wants, listed, field_shape, convert_shape}
use Rattle.definitions.specs.Checking.{check_place, check, check_pairs, check_reader}
use Rattle.laws.specs.OrderInduction.{InOption, Ascending, ascending_of_record, ascending_found}
use Rattle.laws.specs.OrderParts.{AtName, Records, below_kinds, below_records}
use Rattle.laws.specs.JoinLaws.{nothing_ascending, shape_of_ascending}
use Rattle.laws.specs.SoundShapes.{convert_ascending}
use Rattle.laws.specs.WidensShapes.{Under, UnderFields, under_refl, under_join, under_list, under_rec, under_no_fields, under_insert}
use Rattle.laws.specs.WidensShapes.{under_gained, under_element, under_cut, under_taken}

-- ---- two outcomes

-- what a check comes to against the lower and the higher: what came out of both stands so to each other, or it is 9 above. Where it is refused
-- below nothing is claimed
pub data Widens {A : Type 0} (P : A → A → Type 0) : (lower higher : Outcome ℕ A) → Type 0 where
  grew : {a b : A} → P a b → Widens P (ok a) (ok b)
  unwanted : {o : Outcome ℕ A} {p : ℕ} → Widens P o (refused 9 p)
  refused_below : {n p : ℕ} {o : Outcome ℕ A} → Widens P (refused n p) o

-- "a part that is refused stops the form that holds it"
widens_bind
    : {A B : Type 0} {P : A → A → Type 0} {Q : B → B → Type 0} {o m : Outcome ℕ A} {f g : A → Outcome ℕ B} → Widens P o m
    → ((a b : A) → P a b → Widens Q (f a) (g b)) → Widens Q (o >>= f) (m >>= g)
unfolding ◌>>=◌
widens_bind (grew {a} {b} h) on = on a b h
widens_bind unwanted on = unwanted
widens_bind refused_below on = refused_below

-- a kind that isn't wanted is 9
widens_wants
    : {A : Type 0} {P : A → A → Type 0} {o m : Outcome ℕ A} (at : ℕ) (ks : List Kind) (s t : Shape) → Widens P o m
    → Widens P (wants at ks s o) (wants at ks t m)
unfolding wants
widens_wants {A} {P} {o} {m} at ks s t h = by (within ks s) (within ks t)
  where
    by
        : (b c : Bool)
        → Widens {A = A} P (elim b [ true ↦ o | false ↦ refused 9 at ]) (elim c [ true ↦ m | false ↦ refused 9 at ])
    by true true = h
    by false true = refused_below
    by true false = unwanted
    by false false = unwanted

module _ {A : Type 0} {P : A → A → Type 0} {o m : Outcome ℕ A} (h : Widens P o m) {a : A} (e : o ≡ ok a) where
  passed_below : Widens P (ok a) m
  passed_below = subst (λ (x : Outcome ℕ A). Widens P x m) e h

  pub widens_grew : {b : A} → m ≡ ok b → P a b
  widens_grew {b} f = by (subst (Widens P (ok a)) f passed_below)
    where
      by : Widens P (ok a) (ok b) → P a b
      by (grew h) = h

  pub widens_lost : {n p : ℕ} → m ≡ refused n p → n ≡ 9
  widens_lost {n} {p} f = by (subst (Widens P (ok a)) f passed_below)
    where
      by : {n p : ℕ} → Widens P (ok a) (refused n p) → n ≡ 9
      by unwanted = refl

-- ---- places

-- every binding's shape below the other's
data Follows : (env above : List Shape) → Type 0 where
  follows_none : Follows [] []
  follows_bind : {s t : Shape} {env above : List Shape} → Under s t → Follows env above → Follows (s ∷ env) (t ∷ above)

follows_at : {env above : List Shape} → Follows env above → (k : ℕ) → Under (get_or env k nothing) (get_or above k nothing)
follows_at follows_none k = under_refl nothing nothing_ascending
follows_at (follows_bind h f) zero = h
follows_at (follows_bind h f) (suc k) = follows_at f k

-- what is listed below is listed above: no 10 there
widens_listed
    : (at : ℕ) (n : Bytes) (r q : Record) → ascending_record r ≡ true → ascending_record q ≡ true → Records r q
    → Widens Under (listed at n r) (listed at n q)
unfolding listed ascending
widens_listed at n no_rec q i j h = refused_below
widens_listed at n (rec_of fs) no_rec i j h = absurd h
widens_listed at n (rec_of fs) (rec_of gs) i j h = by (find n fs) (find n gs) (ascending_found fs i n) (ascending_found gs j n) (h n)
  where
    found : Option Shape → Outcome ℕ Shape
    found o = elim o [ none ↦ refused 10 at | some s ↦ ok s ]

    by : (o p : Option Shape) → InOption Ascending o → InOption Ascending p → AtName o p → Widens Under (found o) (found p)
    by none p i j k = refused_below
    by (some a) none i j k = absurd k
    by (some a) (some b) i j k = grew (record { sorted = i; sorted_above = j; order = k })

widens_field : (at : ℕ) (n : Bytes) {s t : Shape} → Under s t → Widens Under (field_shape at n s) (field_shape at n t)
unfolding field_shape
widens_field at n {s} {t} h =
    widens_wants at field_kinds s t
    (widens_bind
    (widens_listed at n (record_of s) (record_of t) (ascending_of_record s h.sorted) (ascending_of_record t h.sorted_above)
    (below_records s t h.order)) λ a b k.
    grew (under_gained (has Kind.null s) (has Kind.null t) (below_kinds s t h.order Kind.null) k))

place_widens : (p : Place) {env above : List Shape} → Follows env above → Widens Under (check_place p env) (check_place p above)
unfolding check_place
place_widens (Place.it at n) f = grew (follows_at f n)
place_widens (Place.field at n p) f = widens_bind (place_widens p f) λ s t h. widens_field at n h

-- ---- results

under_convert : (c : Conversion) → Under (convert_shape c) (convert_shape c)
under_convert c = under_refl (convert_shape c) (convert_ascending c)

under_int : Under (only_numeric int_only) (only_numeric int_only)
unfolding convert_shape
under_int = under_convert Conversion.to_int

mutual
  unfolding check

  result_widens : (r : Result) {env above : List Shape} → Follows env above → Widens Under (check r env) (check r above)
  result_widens (Result.convert at c p) f =
      widens_bind (place_widens p f) λ s t h. widens_wants at (convert_kinds c) s t (grew (under_convert c))
  result_widens (Result.keep at p) f = place_widens p f
  result_widens (Result.count at p) f = widens_bind (place_widens p f) λ s t h. widens_wants at list_kinds s t (grew under_int)
  result_widens (Result.each at p r) f =
      widens_bind (place_widens p f) λ s t h.
      widens_bind (result_widens r (follows_bind (under_element h) f)) λ u w k. widens_wants at list_kinds s t (grew (under_list k))
  result_widens (Result.when at k p r₁ r₂) f =
      widens_bind (place_widens p f) λ s t h.
      widens_bind (result_widens r₁ (follows_bind (under_cut k h) f)) λ u₁ w₁ k₁.
      widens_bind (result_widens r₂ (follows_bind (under_taken k h) f)) λ u₂ w₂ k₂. grew (under_join k₁ k₂)
  result_widens (Result.choose at r₁ r₂ r₃) f =
      widens_bind (result_widens r₁ f) λ u₁ w₁ k₁.
      widens_bind (result_widens r₂ f) λ u₂ w₂ k₂.
      widens_bind (result_widens r₃ f) λ u₃ w₃ k₃. widens_wants at if_kinds u₁ w₁ (grew (under_join k₂ k₃))
  result_widens (Result.literal at v) f = grew (under_refl (shape_of v) (shape_of_ascending v))
  result_widens (Result.pack at ps) f = widens_bind (pairs_widen ps f) λ fs gs h. grew (under_rec h)

  pairs_widen : (ps : Pairs) {env above : List Shape} → Follows env above → Widens UnderFields (check_pairs ps env) (check_pairs ps above)
  pairs_widen no_pairs f = grew under_no_fields
  pairs_widen (pair n r ps) f =
      widens_bind (result_widens r f) λ s t h. widens_bind (pairs_widen ps f) λ fs gs k. grew (under_insert n h k)

-- ---- readers

module _ (r : Result) (s t u : Shape) (i : ascending s ≡ true) (j : ascending t ≡ true) (h : below s t ≡ true) where
  reader_widens : Widens Under (check_reader r s) (check_reader r t)
  unfolding check_reader
  reader_widens = result_widens r (follows_bind (record { sorted = i; sorted_above = j; order = h }) follows_none)

  module _ (e : check_reader r s ≡ ok u) where
    pub check_widens : (w : Shape) → check_reader r t ≡ ok w → below u w ≡ true
    check_widens w f = (widens_grew reader_widens e f).order

    pub check_lost : (n p : ℕ) → check_reader r t ≡ refused n p → n ≡ 9
    check_lost n p f = widens_lost reader_widens e f
