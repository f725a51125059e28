-- The shapes that a check meets and gives have their names ascending. Assumes nothing.
use Rattle.std.specs.Prelude.{ℕ, zero, suc, ◌≡◌, refl, Bool, true, false, List, [], ◌∷◌, get_or}
use Rattle.std.proofs.Common.{sym, ◌∙◌, ap}
use Rattle.definitions.specs.Outcome.{ok}
use Rattle.definitions.specs.Shape.{Kind, Shape, shape, no_list, list_of, nothing, has, element_of, record_of, ascending, ascending_record}
use Rattle.definitions.specs.Shape.{ascending_fields, only_numeric, only_bool, only_text, only_list, only_rec}
use Rattle.definitions.specs.Reader.{Place, Conversion, to_int, to_dec, to_bool, to_text, Result, Pairs, no_pairs, pair}
use Rattle.definitions.specs.Checking.{field_kinds, convert_kinds, list_kinds, if_kinds, gain_null, field_shape, convert_shape}
use Rattle.definitions.specs.Checking.{element_shape, cut_to, taken_out, check_place, check, check_pairs, check_reader}
use Rattle.laws.specs.Bools.{and_left, and_intro}
use Rattle.laws.specs.Fields.{find_ascending}
use Rattle.laws.specs.FieldsPut.{with_null_ascending, insert_ascending}
use Rattle.laws.specs.OrderInduction.{ascending_of_record}
use Rattle.laws.specs.JoinLaws.{join_ascending, shape_of_ascending}
use Rattle.laws.specs.SoundHolds.{Holds, gave, any, holds_of, holds_bind, holds_wants, holds_listed}
use Rattle.laws.specs.SoundKinds.{cut_ascending, taken_ascending}

-- ---- the shapes of a check ascend

-- every binding's shape ascends
abbrev pub Ascends : List Shape → Type 0
Ascends env = (k : ℕ) → ascending (get_or env k nothing) ≡ true

pub ascends_none : Ascends []
unfolding ascending nothing
ascends_none k = refl

pub ascends_bind : (s : Shape) (env : List Shape) → ascending s ≡ true → Ascends env → Ascends (s ∷ env)
ascends_bind s env h a zero = h
ascends_bind s env h a (suc k) = a k

abbrev pub Rises : Shape → Type 0
Rises s = ascending s ≡ true

pub element_ascending : (s : Shape) → ascending s ≡ true → ascending (element_shape (element_of s)) ≡ true
unfolding ascending element_shape element_of nothing
element_ascending (shape n b m t no_list r) h = refl
element_ascending (shape n b m t (list_of e) r) h = and_left (ascending e) (ascending_record r) h

pub convert_ascending : (c : Conversion) → ascending (convert_shape c) ≡ true
unfolding ascending convert_shape only_numeric only_bool only_text
convert_ascending to_int = refl
convert_ascending to_dec = refl
convert_ascending to_bool = refl
convert_ascending to_text = refl

gain_ascending : (b : Bool) (s : Shape) → ascending s ≡ true → ascending (gain_null b s) ≡ true
unfolding gain_null
gain_ascending true s h = with_null_ascending s h
gain_ascending false s h = h

pub place_ascending : (p : Place) (env : List Shape) → Ascends env → Holds any Rises (check_place p env)
unfolding check_place field_shape ascending
place_ascending (Place.it at k) env a = gave (a k)
place_ascending (Place.field at n p) env a =
    holds_bind (place_ascending p env a) λ s h.
    holds_wants at field_kinds s λ w.
    holds_bind (holds_listed at n (record_of s) λ fs u r e. find_ascending fs n u (ap ascending_record (sym r) ∙ ascending_of_record s h) e) λ u i.
    gave (gain_ascending (has Kind.null s) u i)

mutual
  unfolding check ascending only_numeric only_list only_rec

  pub result_ascending : (r : Result) (env : List Shape) → Ascends env → Holds any Rises (check r env)
  result_ascending (Result.convert at c p) env a =
      holds_bind (place_ascending p env a) λ s h. holds_wants at (convert_kinds c) s λ w. gave (convert_ascending c)
  result_ascending (Result.keep at p) env a = place_ascending p env a
  result_ascending (Result.count at p) env a =
      holds_bind (place_ascending p env a) λ s h. holds_wants at list_kinds s λ w. gave refl
  result_ascending (Result.each at p r) env a =
      holds_bind (place_ascending p env a) λ s h.
      let e = element_shape (element_of s) in
      holds_bind (result_ascending r (e ∷ env) (ascends_bind e env (element_ascending s h) a)) λ t h₁.
      holds_wants at list_kinds s λ w. gave (and_intro h₁ refl)
  result_ascending (Result.when at k p r₁ r₂) env a =
      holds_bind (place_ascending p env a) λ s h.
      holds_bind (result_ascending r₁ (cut_to k s ∷ env) (ascends_bind (cut_to k s) env (cut_ascending k s h) a)) λ t₁ h₁.
      holds_bind (result_ascending r₂ (taken_out k s ∷ env) (ascends_bind (taken_out k s) env (taken_ascending k s h) a)) λ t₂ h₂.
      gave (join_ascending t₁ t₂ h₁ h₂)
  result_ascending (Result.choose at r₁ r₂ r₃) env a =
      holds_bind (result_ascending r₁ env a) λ t₁ h₁.
      holds_bind (result_ascending r₂ env a) λ t₂ h₂.
      holds_bind (result_ascending r₃ env a) λ t₃ h₃.
      holds_wants at if_kinds t₁ λ w. gave (join_ascending t₂ t₃ h₂ h₃)
  result_ascending (Result.literal at v) env a = gave (shape_of_ascending v)
  result_ascending (Result.pack at ps) env a = holds_bind (pairs_ascending ps env a) λ fs h. gave h

  pub pairs_ascending
      : (ps : Pairs) (env : List Shape) → Ascends env → Holds any (λ fs. ascending_fields fs ≡ true) (check_pairs ps env)
  pairs_ascending no_pairs env a = gave refl
  pairs_ascending (pair n r ps) env a =
      holds_bind (result_ascending r env a) λ s h.
      holds_bind (pairs_ascending ps env a) λ fs h₁. gave (insert_ascending n s fs h h₁)

-- the result shape of a reader that passes
pub check_ascending : (r : Result) (s u : Shape) → ascending s ≡ true → check_reader r s ≡ ok u → ascending u ≡ true
unfolding check_reader
check_ascending r s u h e = holds_of e (result_ascending r (s ∷ []) (ascends_bind s [] h ascends_none))
