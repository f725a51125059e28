-- The rules of checking hold exactly where checking gives a shape or is refused. Assumes nothing.
use Rattle.std.specs.Prelude.{ℕ, ◌≡◌, refl, ◌⊎◌, ◌↔◌, Bool, true, false, List, [], ◌∷◌}
use Rattle.std.proofs.Common.{ap, ◌∙◌, inl, inr}
use Rattle.std.proofs.Math.Option.{Option, none, some}
use Rattle.definitions.specs.Bytes.{Bytes}
use Rattle.definitions.specs.Outcome.{Outcome, ok, refused}
use Rattle.definitions.specs.Shape.{Kind, Shape, Record, no_rec, rec_of, Fields, has, within, element_of, record_of, find}
use Rattle.definitions.specs.Reader.{Place, Conversion, Result, Pairs, no_pairs, pair}
use Rattle.definitions.specs.Checking.{field_kinds, convert_kinds, convert_shape, list_kinds, if_kinds, wants, listed, gain_null, field_shape}
use Rattle.definitions.specs.Checking.{element_shape, cut_to, taken_out, check_place, check, check_pairs, check_reader}
use Rattle.laws.specs.RuleTells.{Tells, gave, stopped, told, told_refused, tells_map, tells_bind, tells_wants, bind_ok, bind_refused}
use Rattle.laws.specs.RuleTells.{wants_met, wants_unmet}
use Rattle.laws.specs.CheckRules.{Listed, is_listed, Unlisted, no_members, no_such_name, GainsNull, gained, none_gained, Converts, PlaceChecks}
use Rattle.laws.specs.CheckRules.{checks_it, checks_field, Checks, checks_convert, checks_keep, checks_count, checks_each, checks_when, checks_if}
use Rattle.laws.specs.CheckRules.{checks_literal, checks_pack}
use Rattle.laws.specs.CheckRules.{PairsCheck, checks_no_pairs, checks_pair, PlaceRefuses, field_part, field_kind, field_name}
use Rattle.laws.specs.CheckRules.{Refuses, convert_part}
use Rattle.laws.specs.CheckRules.{convert_kind, keep_part, count_part, count_kind, each_part, each_second_part, each_kind, when_part}
use Rattle.laws.specs.CheckRules.{when_second_part}
use Rattle.laws.specs.CheckRules.{when_third_part, if_part, if_second_part, if_third_part, if_kind, pack_part, PairsRefuse}
use Rattle.laws.specs.CheckRules.{this_pair, later_pair}
use Rattle.laws.specs.CheckRulesKinds.{converts, converts_as, element_is, element_as, means, cuts, cuts_as, takes, takes_as}

-- ---- what checking comes to is what the rules say

abbrev PlaceTells : List Shape → Place → Outcome ℕ Shape → Type 0
PlaceTells env p o = Tells (PlaceChecks env p) (PlaceRefuses env p) o

-- where the name is listed with a shape, and where it is not
listed_tells
    : (at : ℕ) (n : Bytes) (s : Shape) (r : Record) → record_of s ≡ r
    → Tells (Listed n s) (λ m q. (m ≡ 10) × (q ≡ at) × Unlisted n s) (listed at n r)
unfolding listed
listed_tells at n s no_rec e = stopped (refl, refl, no_members e)
listed_tells at n s (rec_of fs) e = go (find n fs) refl
  where
    go
        : (o : Option Shape) → find n fs ≡ o
        → Tells (Listed n s) (λ m q. (m ≡ 10) × (q ≡ at) × Unlisted n s) (elim o [ none ↦ refused 10 at | some t ↦ ok t ])
    go none f = stopped (refl, refl, no_such_name e f)
    go (some t) f = gave (is_listed e f)

null_gains : (s t : Shape) (b : Bool) → has Kind.null s ≡ b → GainsNull s t (gain_null b t)
unfolding gain_null
null_gains s t true e = gained e
null_gains s t false e = none_gained e

gains_as : {s t u : Shape} → GainsNull s t u → gain_null (has Kind.null s) t ≡ u
unfolding gain_null
gains_as {t = t} (gained e) = ap (λ b. gain_null b t) e
gains_as {t = t} (none_gained e) = ap (λ b. gain_null b t) e

field_tells
    : {env : List Shape} (at : ℕ) (n : Bytes) {p : Place} {s : Shape} → PlaceChecks env p s
    → PlaceTells env (Place.field at n p) (field_shape at n s)
unfolding field_shape field_kinds
field_tells {env} at n {p} {s} d =
    tells_wants at field_kinds s (λ w. field_kind d w) λ w.
    tells_bind (listed_tells at n s (record_of s) refl) (λ m q x. unlisted w x) λ t h.
    gave (checks_field d w h (null_gains s t (has Kind.null s) refl))
  where
    unlisted
        : within field_kinds s ≡ true → {m q : ℕ} → (m ≡ 10) × (q ≡ at) × Unlisted n s
        → PlaceRefuses env (Place.field at n p) m q
    unlisted w (e, f, u) = rw (e, f) (field_name d w u)

place_tells : (p : Place) (env : List Shape) → PlaceTells env p (check_place p env)
unfolding check_place
place_tells (Place.it at n) env = gave checks_it
place_tells (Place.field at n p) env = tells_bind (place_tells p env) (λ m q x. field_part x) λ s d. field_tells at n d

mutual
  unfolding check list_kinds if_kinds

  tells : (r : Result) (env : List Shape) → Tells (Checks env r) (Refuses env r) (check r env)
  tells (Result.convert at c p) env =
      tells_bind (place_tells p env) (λ m q x. convert_part x) λ s d.
      tells_wants at (convert_kinds c) s (λ w. convert_kind d (converts c) w) λ w. gave (checks_convert d (converts c) w)
  tells (Result.keep at p) env = tells_map (λ m q x. keep_part x) (λ s d. checks_keep d) (place_tells p env)
  tells (Result.count at p) env =
      tells_bind (place_tells p env) (λ m q x. count_part x) λ s d.
      tells_wants at list_kinds s (λ w. count_kind d w) λ w. gave (checks_count d w)
  tells (Result.each at p r) env =
      tells_bind (place_tells p env) (λ m q x. each_part x) λ s d.
      tells_bind (tells r (element_shape (element_of s) ∷ env)) (λ m q x. each_second_part d (element_is s) x) λ t f.
      tells_wants at list_kinds s (λ w. each_kind d (element_is s) f w) λ w. gave (checks_each d (element_is s) f w)
  tells (Result.when at k p r₁ r₂) env =
      tells_bind (place_tells p env) (λ m q x. when_part x) λ s d.
      tells_bind (tells r₁ (cut_to k s ∷ env)) (λ m q x. when_second_part d (means k) (cuts k s) x) λ t₁ f.
      tells_bind (tells r₂ (taken_out k s ∷ env)) (λ m q x. when_third_part d (means k) (cuts k s) f (takes k s) x) λ t₂ g.
      gave (checks_when d (means k) (cuts k s) f (takes k s) g)
  tells (Result.choose at r₁ r₂ r₃) env =
      tells_bind (tells r₁ env) (λ m q x. if_part x) λ t₁ d.
      tells_bind (tells r₂ env) (λ m q x. if_second_part d x) λ t₂ f.
      tells_bind (tells r₃ env) (λ m q x. if_third_part d f x) λ t₃ g.
      tells_wants at if_kinds t₁ (λ w. if_kind d f g w) λ w. gave (checks_if d f g w)
  tells (Result.literal at v) env = gave checks_literal
  tells (Result.pack at ps) env = tells_bind (pairs_tell ps env) (λ m q x. pack_part x) λ fs d. gave (checks_pack d)

  pairs_tell : (ps : Pairs) (env : List Shape) → Tells (PairsCheck env ps) (PairsRefuse env ps) (check_pairs ps env)
  pairs_tell no_pairs env = gave checks_no_pairs
  pairs_tell (pair n r ps) env =
      tells_bind (tells r env) (λ m q x. this_pair x) λ s d.
      tells_bind (pairs_tell ps env) (λ m q x. later_pair d x) λ fs f. gave (checks_pair d f)

-- ---- what the rules give is what checking comes to

listed_gives : {n : Bytes} {s t : Shape} (at : ℕ) → Listed n s t → listed at n (record_of s) ≡ ok t
unfolding listed
listed_gives {n} at (is_listed e f) = ap (listed at n) e ∙ rw (f, listed) refl

unlisted_refused : {n : Bytes} {s : Shape} (at : ℕ) → Unlisted n s → listed at n (record_of s) ≡ refused 10 at
unfolding listed
unlisted_refused {n} at (no_members e) = ap (listed at n) e
unlisted_refused {n} at (no_such_name e f) = ap (listed at n) e ∙ rw (f, listed) refl

place_gives : {env : List Shape} {p : Place} {s : Shape} → PlaceChecks env p s → check_place p env ≡ ok s
unfolding check_place field_shape field_kinds
place_gives checks_it = refl
place_gives (checks_field {at} {s = s} d w l g) =
    bind_ok _ (place_gives d) ∙ wants_met at field_kinds s _ w ∙ bind_ok _ (listed_gives at l) ∙ ap ok (gains_as g)

place_refused : {env : List Shape} {p : Place} {m q : ℕ} → PlaceRefuses env p m q → check_place p env ≡ refused m q
unfolding check_place field_shape field_kinds
place_refused (field_part x) = bind_refused _ (place_refused x)
place_refused (field_kind {at} {s = s} d w) = bind_ok _ (place_gives d) ∙ wants_unmet at field_kinds s _ w
place_refused (field_name {at} {s = s} d w u) =
    bind_ok _ (place_gives d) ∙ wants_met at field_kinds s _ w ∙ bind_refused _ (unlisted_refused at u)

-- with a shape bound that the rules name
bound
    : (env : List Shape) (r : Result) {s t : Shape} {o : Outcome ℕ Shape} → s ≡ t → check r (t ∷ env) ≡ o → check r (s ∷ env) ≡ o
bound env r e h = ap (λ x. check r (x ∷ env)) e ∙ h

-- the kinds that a conversion wants
kinds_met : {c : Conversion} {ks : List Kind} {t : Shape} (at : ℕ) (s : Shape) → Converts c ks t → within ks s ≡ true
    → wants at (convert_kinds c) s (ok (convert_shape c)) ≡ ok t
kinds_met at s v w = rw ((converts_as v).0, (converts_as v).1) (wants_met at _ s _ w)

kinds_unmet : {c : Conversion} {ks : List Kind} {t : Shape} (at : ℕ) (s : Shape) → Converts c ks t → within ks s ≡ false
    → wants at (convert_kinds c) s (ok (convert_shape c)) ≡ refused 9 at
kinds_unmet at s v w = rw (converts_as v).0 (wants_unmet at _ s _ w)

mutual
  unfolding check list_kinds if_kinds

  gives : (r : Result) {env : List Shape} {t : Shape} → Checks env r t → check r env ≡ ok t
  gives (Result.convert at c p) (checks_convert {s = s} d v w) = bind_ok _ (place_gives d) ∙ kinds_met at s v w
  gives (Result.keep at p) (checks_keep d) = place_gives d
  gives (Result.count at p) (checks_count {s = s} d w) = bind_ok _ (place_gives d) ∙ wants_met at list_kinds s _ w
  gives (Result.each at p r) {env} (checks_each {s = s} d e f w) =
      bind_ok _ (place_gives d) ∙ bind_ok _ (bound env r (element_as e) (gives r f)) ∙ wants_met at list_kinds s _ w
  gives (Result.when at k p r₁ r₂) {env} (checks_when d m c f t g) =
      bind_ok _ (place_gives d)
      ∙ bind_ok _ (bound env r₁ (cuts_as m c) (gives r₁ f))
      ∙ bind_ok _ (bound env r₂ (takes_as m t) (gives r₂ g))
  gives (Result.choose at r₁ r₂ r₃) (checks_if {t₁ = t₁} d f g w) =
      bind_ok _ (gives r₁ d) ∙ bind_ok _ (gives r₂ f) ∙ bind_ok _ (gives r₃ g) ∙ wants_met at if_kinds t₁ _ w
  gives (Result.literal at v) checks_literal = refl
  gives (Result.pack at ps) (checks_pack d) = bind_ok _ (pairs_give ps d)

  pairs_give : (ps : Pairs) {env : List Shape} {fs : Fields} → PairsCheck env ps fs → check_pairs ps env ≡ ok fs
  pairs_give no_pairs checks_no_pairs = refl
  pairs_give (pair n r ps) (checks_pair d f) = bind_ok _ (gives r d) ∙ bind_ok _ (pairs_give ps f)

mutual
  unfolding check list_kinds if_kinds

  refuses : {env : List Shape} {r : Result} {m q : ℕ} → Refuses env r m q → check r env ≡ refused m q
  refuses (convert_part x) = bind_refused _ (place_refused x)
  refuses (convert_kind {at = at} {s = s} d v w) = bind_ok _ (place_gives d) ∙ kinds_unmet at s v w
  refuses (keep_part x) = place_refused x
  refuses (count_part x) = bind_refused _ (place_refused x)
  refuses (count_kind {at = at} {s = s} d w) = bind_ok _ (place_gives d) ∙ wants_unmet at list_kinds s _ w
  refuses (each_part x) = bind_refused _ (place_refused x)
  refuses (each_second_part {env} {r = r} d e x) = bind_ok _ (place_gives d) ∙ bind_refused _ (bound env r (element_as e) (refuses x))
  refuses (each_kind {env} {at} {r = r} {s} d e f w) =
      bind_ok _ (place_gives d) ∙ bind_ok _ (bound env r (element_as e) (gives _ f)) ∙ wants_unmet at list_kinds s _ w
  refuses (when_part x) = bind_refused _ (place_refused x)
  refuses (when_second_part {env} {r₁ = r₁} d m c x) = bind_ok _ (place_gives d) ∙ bind_refused _ (bound env r₁ (cuts_as m c) (refuses x))
  refuses (when_third_part {env} {r₁ = r₁} {r₂} d m c f t x) =
      bind_ok _ (place_gives d) ∙ bind_ok _ (bound env r₁ (cuts_as m c) (gives _ f)) ∙ bind_refused _ (bound env r₂ (takes_as m t) (refuses x))
  refuses (if_part x) = bind_refused _ (refuses x)
  refuses (if_second_part d x) = bind_ok _ (gives _ d) ∙ bind_refused _ (refuses x)
  refuses (if_third_part d f x) = bind_ok _ (gives _ d) ∙ bind_ok _ (gives _ f) ∙ bind_refused _ (refuses x)
  refuses (if_kind {at = at} {t₁ = t₁} d f g w) =
      bind_ok _ (gives _ d) ∙ bind_ok _ (gives _ f) ∙ bind_ok _ (gives _ g) ∙ wants_unmet at if_kinds t₁ _ w
  refuses (pack_part x) = bind_refused _ (pairs_refused x)

  pairs_refused : {env : List Shape} {ps : Pairs} {m q : ℕ} → PairsRefuse env ps m q → check_pairs ps env ≡ refused m q
  pairs_refused (this_pair x) = bind_refused _ (refuses x)
  pairs_refused (later_pair d x) = bind_ok _ (gives _ d) ∙ bind_refused _ (pairs_refused x)

-- ---- a reader

pub checks_exactly : (r : Result) (s t : Shape) → (check_reader r s ≡ ok t) ↔ Checks (s ∷ []) r t
unfolding check_reader
checks_exactly r s t = (told (tells r (s ∷ [])), gives r)

pub refuses_exactly : (r : Result) (s : Shape) (n p : ℕ) → (check_reader r s ≡ refused n p) ↔ Refuses (s ∷ []) r n p
unfolding check_reader
refuses_exactly r s n p = (told_refused (tells r (s ∷ [])), refuses)

-- ---- no number but 9 and 10

abbrev Unwanted : ℕ → Type 0
Unwanted n = (n ≡ 9) ⊎ (n ≡ 10)

place_number : {env : List Shape} {p : Place} {m q : ℕ} → PlaceRefuses env p m q → Unwanted m
place_number (field_part x) = place_number x
place_number (field_kind d w) = inl refl
place_number (field_name d w u) = inr refl

mutual
  refuses_number : {env : List Shape} {r : Result} {m q : ℕ} → Refuses env r m q → Unwanted m
  refuses_number (convert_part x) = place_number x
  refuses_number (convert_kind d v w) = inl refl
  refuses_number (keep_part x) = place_number x
  refuses_number (count_part x) = place_number x
  refuses_number (count_kind d w) = inl refl
  refuses_number (each_part x) = place_number x
  refuses_number (each_second_part d e x) = refuses_number x
  refuses_number (each_kind d e f w) = inl refl
  refuses_number (when_part x) = place_number x
  refuses_number (when_second_part d m c x) = refuses_number x
  refuses_number (when_third_part d m c f t x) = refuses_number x
  refuses_number (if_part x) = refuses_number x
  refuses_number (if_second_part d x) = refuses_number x
  refuses_number (if_third_part d f x) = refuses_number x
  refuses_number (if_kind d f g w) = inl refl
  refuses_number (pack_part x) = pairs_number x

  pairs_number : {env : List Shape} {ps : Pairs} {m q : ℕ} → PairsRefuse env ps m q → Unwanted m
  pairs_number (this_pair x) = refuses_number x
  pairs_number (later_pair d x) = pairs_number x

pub check_refusals : (r : Result) (s : Shape) (n p : ℕ) → check_reader r s ≡ refused n p → (n ≡ 9) ⊎ (n ≡ 10)
check_refusals r s n p e = refuses_number ((refuses_exactly r s n p).0 e)
