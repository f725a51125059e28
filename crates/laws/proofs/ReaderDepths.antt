-- The nestings of the forms of a reader, in the order of their brackets. Assumes nothing.
use Rattle.std.specs.Prelude.{ℕ, suc, ◌+◌, max, ◌≡◌, refl, List, [], ◌∷◌, ◌++◌, length}
use Rattle.std.proofs.Common.{◌∙◌, ap, ap₂, length-append, arith}
use Rattle.definitions.specs.Reader.{Place, Result, Pairs, no_pairs, pair}
use Rattle.laws.specs.FormGrammar.{place_forms, result_forms, pairs_forms, place_levels, result_levels, pairs_levels}
use Rattle.laws.specs.FormRuns.{most, most_append}

-- ---- the nestings of forms, in the order of their brackets

-- of a place that d forms are open around
unfoldable pub place_depths : Place → ℕ → List ℕ
place_depths (Place.it p n) d = suc d ∷ []
place_depths (Place.field p n q) d = suc d ∷ place_depths q (suc d)

unfoldable mutual
  pub result_depths : Result → ℕ → List ℕ
  result_depths (Result.convert p c q) d = suc d ∷ place_depths q (suc d)
  result_depths (Result.keep p q) d = suc d ∷ place_depths q (suc d)
  result_depths (Result.count p q) d = suc d ∷ place_depths q (suc d)
  result_depths (Result.each p q r) d = suc d ∷ place_depths q (suc d) ++ result_depths r (suc d)
  result_depths (Result.when p t q r₁ r₂) d =
      suc d ∷ place_depths q (suc d) ++ (result_depths r₁ (suc d) ++ result_depths r₂ (suc d))
  result_depths (Result.choose p r₁ r₂ r₃) d =
      suc d ∷ result_depths r₁ (suc d) ++ (result_depths r₂ (suc d) ++ result_depths r₃ (suc d))
  result_depths (Result.literal p v) d = suc d ∷ []
  result_depths (Result.pack p ps) d = suc d ∷ pairs_depths ps (suc d)

  pub pairs_depths : Pairs → ℕ → List ℕ
  pairs_depths no_pairs d = []
  pairs_depths (pair n r ps) d = result_depths r d ++ pairs_depths ps d

-- they are as many as the forms
pub depths_place_forms : (p : Place) (d : ℕ) → length (place_depths p d) ≡ place_forms p
unfolding place_depths place_forms
depths_place_forms (Place.it p n) d = refl
depths_place_forms (Place.field p n q) d = ap suc (depths_place_forms q (suc d))

mutual
  unfolding result_depths result_forms

  pub depths_result_forms : (r : Result) (d : ℕ) → length (result_depths r d) ≡ result_forms r
  depths_result_forms (Result.convert p c q) d = ap suc (depths_place_forms q (suc d))
  depths_result_forms (Result.keep p q) d = ap suc (depths_place_forms q (suc d))
  depths_result_forms (Result.count p q) d = ap suc (depths_place_forms q (suc d))
  depths_result_forms (Result.each p q r) d =
      let a = depths_place_forms q (suc d) in
      let b = depths_result_forms r (suc d) in
      let c = length-append (place_depths q (suc d)) (result_depths r (suc d)) in
      omega arith
  depths_result_forms (Result.when p t q r₁ r₂) d =
      let a = depths_place_forms q (suc d) in
      let b = depths_result_forms r₁ (suc d) in
      let c = depths_result_forms r₂ (suc d) in
      let e = length-append (place_depths q (suc d)) (result_depths r₁ (suc d) ++ result_depths r₂ (suc d)) in
      let f = length-append (result_depths r₁ (suc d)) (result_depths r₂ (suc d)) in
      omega arith
  depths_result_forms (Result.choose p r₁ r₂ r₃) d =
      let a = depths_result_forms r₁ (suc d) in
      let b = depths_result_forms r₂ (suc d) in
      let c = depths_result_forms r₃ (suc d) in
      let e = length-append (result_depths r₁ (suc d)) (result_depths r₂ (suc d) ++ result_depths r₃ (suc d)) in
      let f = length-append (result_depths r₂ (suc d)) (result_depths r₃ (suc d)) in
      omega arith
  depths_result_forms (Result.literal p v) d = refl
  depths_result_forms (Result.pack p ps) d = ap suc (depths_pairs_forms ps (suc d))

  depths_pairs_forms : (ps : Pairs) (d : ℕ) → length (pairs_depths ps d) ≡ pairs_forms ps
  depths_pairs_forms no_pairs d = refl
  depths_pairs_forms (pair n r ps) d =
      length-append (result_depths r d) (pairs_depths ps d) ∙ ap₂ ◌+◌ (depths_result_forms r d) (depths_pairs_forms ps d)

-- the greatest nesting of two parts
both
    : (ds es : List ℕ) (x y d : ℕ) → max d (most ds) ≡ d + x → max d (most es) ≡ d + y → max d (most (ds ++ es)) ≡ d + max x y
both ds es x y d f g = let e = most_append ds es in omega arith

within : (ds : List ℕ) (x d : ℕ) → max (suc d) (most ds) ≡ suc d + x → max d (most (suc d ∷ ds)) ≡ d + suc x
unfolding most
within ds x d e = omega arith

-- the greatest is their nesting
pub depths_place_levels : (p : Place) (d : ℕ) → max d (most (place_depths p d)) ≡ d + place_levels p
unfolding place_depths place_levels most
depths_place_levels (Place.it p n) d = omega arith
depths_place_levels (Place.field p n q) d = let a = depths_place_levels q (suc d) in omega arith

mutual
  unfolding result_depths result_levels most

  pub depths_result_levels : (r : Result) (d : ℕ) → max d (most (result_depths r d)) ≡ d + result_levels r
  depths_result_levels (Result.convert p c q) d = let a = depths_place_levels q (suc d) in omega arith
  depths_result_levels (Result.keep p q) d = let a = depths_place_levels q (suc d) in omega arith
  depths_result_levels (Result.count p q) d = let a = depths_place_levels q (suc d) in omega arith
  depths_result_levels (Result.each p q r) d =
      let a =
      both
      (place_depths q (suc d))
      (result_depths r (suc d))
      (place_levels q)
      (result_levels r)
      (suc d)
      (depths_place_levels q (suc d))
      (depths_result_levels r (suc d))
      in
      within (place_depths q (suc d) ++ result_depths r (suc d)) (max (place_levels q) (result_levels r)) d a
  depths_result_levels (Result.when p t q r₁ r₂) d =
      let a =
      both
      (result_depths r₁ (suc d))
      (result_depths r₂ (suc d))
      (result_levels r₁)
      (result_levels r₂)
      (suc d)
      (depths_result_levels r₁ (suc d))
      (depths_result_levels r₂ (suc d))
      in
      let b =
      both
      (place_depths q (suc d))
      (result_depths r₁ (suc d) ++ result_depths r₂ (suc d))
      (place_levels q)
      (max (result_levels r₁) (result_levels r₂))
      (suc d)
      (depths_place_levels q (suc d))
      a
      in
      within
      (place_depths q (suc d) ++ (result_depths r₁ (suc d) ++ result_depths r₂ (suc d)))
      (max (place_levels q) (max (result_levels r₁) (result_levels r₂)))
      d
      b
  depths_result_levels (Result.choose p r₁ r₂ r₃) d =
      let a =
      both
      (result_depths r₂ (suc d))
      (result_depths r₃ (suc d))
      (result_levels r₂)
      (result_levels r₃)
      (suc d)
      (depths_result_levels r₂ (suc d))
      (depths_result_levels r₃ (suc d))
      in
      let b =
      both
      (result_depths r₁ (suc d))
      (result_depths r₂ (suc d) ++ result_depths r₃ (suc d))
      (result_levels r₁)
      (max (result_levels r₂) (result_levels r₃))
      (suc d)
      (depths_result_levels r₁ (suc d))
      a
      in
      within
      (result_depths r₁ (suc d) ++ (result_depths r₂ (suc d) ++ result_depths r₃ (suc d)))
      (max (result_levels r₁) (max (result_levels r₂) (result_levels r₃)))
      d
      b
  depths_result_levels (Result.literal p v) d = omega arith
  depths_result_levels (Result.pack p ps) d = let a = depths_pairs_levels ps (suc d) in omega arith

  depths_pairs_levels : (ps : Pairs) (d : ℕ) → max d (most (pairs_depths ps d)) ≡ d + pairs_levels ps
  depths_pairs_levels no_pairs d = omega arith
  depths_pairs_levels (pair n r ps) d =
      both
      (result_depths r d)
      (pairs_depths ps d)
      (result_levels r)
      (pairs_levels ps)
      d
      (depths_result_levels r d)
      (depths_pairs_levels ps d)
