-- Soundness: a reader that passes the check against a shape, run on a value that the shape admits, gives "a value that
-- the result shape admits", or 13, "never 12". Assumes nothing.
use Rattle.std.specs.Prelude.{ℕ, zero, suc, ◌≡◌, refl, true, not, ◌&&◌, List, [], ◌∷◌, ltb, get_or}
use Rattle.std.proofs.Common.{sym, ◌∙◌}
use Rattle.std.proofs.lemmas.Bool.{false≢true}
use Rattle.std.proofs.Math.Option.{some}
use Rattle.std.proofs.Math.Dec.{leb-suc-zero, leb-suc-suc}
use Rattle.definitions.specs.declared.Limits.{Limits}
use Rattle.definitions.specs.Outcome.{Outcome, ok, refused}
use Rattle.definitions.specs.Value.{Value, Items, no_items, item, count}
use Rattle.definitions.specs.Shape.{Kind, among, Shape, rec_of, Fields, nothing, has, find, element_of, record_of, ascending, only_list, only_rec}
use Rattle.definitions.specs.Join.{join}
use Rattle.definitions.specs.Admits.{kind_of, missing_have_null, admits, admitted, admitted_items, admitted_members}
use Rattle.definitions.specs.Reader.{Place, Result, Pairs, no_pairs, pair, among_pairs}
use Rattle.definitions.specs.Checking.{field_kinds, convert_kinds, list_kinds, if_kinds, gain_null, field_shape, element_shape}
use Rattle.definitions.specs.Checking.{cut_to, taken_out, check_place, check, check_pairs, check_reader, test_kinds}
use Rattle.definitions.specs.Running.{Ran, gives, field_value, converted, items_of, run_place, run_items, run, run_pairs, run_reader}
use Rattle.laws.specs.Bools.{and_intro, not_true}
use Rattle.laws.specs.Distinct.{distinct}
use Rattle.laws.proofs.AdmitsLaws.{shape_of_admits, admits_join_left, admits_join_right}
use Rattle.laws.specs.Readers.{Safe, scoped_place, scoped, scoped_pairs, proper, proper_pairs}
use Rattle.laws.specs.Bools.{and_two, and_three}
use Rattle.laws.specs.SoundHolds.{Holds, gave, any, holds_ok, holds_number, holds_of, holds_map, holds_both}
use Rattle.laws.specs.SoundHolds.{holds_bind, holds_wants, holds_unstuck, holds_enter, holds_either, holds_listed}
use Rattle.laws.specs.RunLaws.{distinct_none, distinct_bind, pairs_named, run_keeps_distinct}
use Rattle.laws.specs.SoundKinds.{within_kind, convert_admits, count_admits, items_admitted}
use Rattle.laws.specs.SoundKinds.{holds_condition, cut_admits, taken_admits, cut_ascending, taken_ascending}
use Rattle.laws.specs.SoundFields.{field_admits, pack_admitted}
use Rattle.laws.specs.SoundShapes.{Ascends, ascends_none, ascends_bind, element_ascending, place_ascending, result_ascending, pairs_ascending}

-- ---- what runs behind a check

-- of the first m bindings, each value is admitted by its shape
abbrev Suits : ℕ → List Shape → List Value → Type 0
Suits m env vs = (k : ℕ) → ltb k m ≡ true → admits (get_or env k nothing) (get_or vs k Value.null) ≡ true

suits_none : Suits 0 [] []
suits_none k h = absurd (false≢true (sym (leb-suc-zero k) ∙ h))

suits_bind
    : (m : ℕ) (s : Shape) (env : List Shape) (v : Value) (vs : List Value) → admits s v ≡ true → Suits m env vs
    → Suits (suc m) (s ∷ env) (v ∷ vs)
suits_bind m s env v vs h g zero e = h
suits_bind m s env v vs h g (suc k) e = g k (sym (leb-suc-suc (suc k) m) ∙ e)

-- the steps are used up
abbrev Spent : ℕ → Type 0
Spent n = n ≡ 13

-- what was given is admitted by the shape
abbrev Fits : Shape → Ran Value → Type 0
Fits u x = admits u x.result ≡ true

-- with suitable values, running gives what the shape admits, or 13
abbrev Meets : ℕ → List Shape → (List Value → Limits → ℕ → Outcome ℕ (Ran Value)) → Shape → Type 0
Meets m env runs u = (vs : List Value) → Suits m env vs → (l : Limits) (n : ℕ) → Holds Spent (Fits u) (runs vs l n)

place_sound
    : (p : Place) (m : ℕ) (env : List Shape) → scoped_place m p ≡ true
    → Holds any (Meets m env (λ vs l n. run_place p l vs n)) (check_place p env)
unfolding check_place field_shape run_place field_value gives scoped_place
place_sound (Place.it at k) m env c = gave λ vs g l n. holds_bind (holds_enter l at n refl) λ n₁ h. gave (g k c)
place_sound (Place.field at i p) m env c =
    holds_bind (place_sound p m env c) λ s f.
    holds_wants at field_kinds s λ w.
    holds_bind {P = λ u. (fs : Fields) × (record_of s ≡ rec_of fs) × (find i fs ≡ some u)}
    (holds_listed at i (record_of s) λ fs u r e. (fs, r, e)) λ u (fs, r, e).
    gave λ vs g l n.
    holds_bind (holds_enter l at n refl) λ n₁ h.
    holds_bind (f vs g l n₁) λ x h₁.
    let v = x.result in
    let k = within_kind field_kinds s v w h₁ in
    holds_bind {P = λ y. admits (gain_null (has Kind.null s) u) y ≡ true}
    (holds_unstuck at field_kinds v k (gave (field_admits i v s fs u h₁ k r e))) λ y h₂.
    gave h₂

items_sound
    : (e t : Shape) (body : Value → ℕ → Outcome ℕ (Ran Value)) → ((v : Value) (n : ℕ) → admits e v ≡ true → Holds Spent (Fits t) (body v n))
    → (vs : Items) (n : ℕ) → admitted_items vs e ≡ true → Holds Spent (λ x. admitted_items x.result t ≡ true) (run_items body vs n)
unfolding run_items gives admits admitted
items_sound e t body b no_items n h = gave refl
items_sound e t body b (item v vs) n h =
    let d = and_two (admitted v e) (admitted_items vs e) h in
    holds_bind (b v n d.0) λ x h₁.
    holds_bind (items_sound e t body b vs x.steps d.1) λ xs h₂.
    gave (and_intro h₁ h₂)

-- both shapes of a join
fits_left
    : (s t : Shape) {o : Outcome ℕ (Ran Value)} → ascending s ≡ true → ascending t ≡ true → Holds Spent (Fits s) o
    → Holds Spent (Fits (join s t)) o
fits_left s t a b h = holds_map (λ n e. e) (λ x i. admits_join_left s t x.result a b i) h

fits_right
    : (s t : Shape) {o : Outcome ℕ (Ran Value)} → ascending s ≡ true → ascending t ≡ true → Holds Spent (Fits t) o
    → Holds Spent (Fits (join s t)) o
fits_right s t a b h = holds_map (λ n e. e) (λ x i. admits_join_right s t x.result a b i) h

mutual
  unfolding check run gives converted admits admitted missing_have_null only_list only_rec element_of record_of scoped proper

  result_sound
      : (r : Result) (m : ℕ) (env : List Shape) → Ascends env → scoped m r ≡ true → proper r ≡ true
      → Holds any (Meets m env (λ vs l n. run r l vs n)) (check r env)
  result_sound (Result.convert at c p) m env a sc q =
      holds_bind (place_sound p m env sc) λ s f.
      holds_wants at (convert_kinds c) s λ w.
      gave λ vs g l n.
      holds_bind (holds_enter l at n refl) λ n₁ h.
      holds_bind (f vs g l n₁) λ x h₁.
      let k = within_kind (convert_kinds c) s x.result w h₁ in
      holds_unstuck at (convert_kinds c) x.result k (gave (convert_admits c x.result k))
  result_sound (Result.keep at p) m env a sc q =
      holds_map (λ n t. t) (λ s f vs g l n. holds_bind (holds_enter l at n refl) λ n₁ h. f vs g l n₁) (place_sound p m env sc)
  result_sound (Result.count at p) m env a sc q =
      holds_bind (place_sound p m env sc) λ s f.
      holds_wants at list_kinds s λ w.
      gave λ vs g l n.
      holds_bind (holds_enter l at n refl) λ n₁ h.
      holds_bind (f vs g l n₁) λ x h₁.
      holds_unstuck at list_kinds x.result (within_kind list_kinds s x.result w h₁) (gave (count_admits (count (items_of x.result))))
  result_sound (Result.each at p r) m env a sc q =
      let c = and_two (scoped_place m p) (scoped (suc m) r) sc in
      holds_bind (holds_both (place_sound p m env c.0) (place_ascending p env a)) λ s f.
      let e = element_shape (element_of s) in
      holds_bind (result_sound r (suc m) (e ∷ env) (ascends_bind e env (element_ascending s f.1) a) c.1 q) λ t f₁.
      holds_wants at list_kinds s λ w.
      gave λ vs g l n.
      holds_bind (holds_enter l at n refl) λ n₁ h.
      holds_bind (f.0 vs g l n₁) λ x h₁.
      let body : (v : Value) (i : ℕ) → admits e v ≡ true → Holds Spent (Fits t) (run r l (v ∷ vs) i) =
      λ v i h₂. f₁ (v ∷ vs) (suits_bind m e env v vs h₂ g) l i in
      let items = items_sound e t (λ v i. run r l (v ∷ vs) i) body (items_of x.result) x.steps (items_admitted x.result s h₁) in
      holds_unstuck at list_kinds x.result (within_kind list_kinds s x.result w h₁) (holds_bind items λ xs h₂. gave h₂)
  result_sound (Result.when at k p r₁ r₂) m env a sc q =
      let c = and_three (scoped_place m p) (scoped (suc m) r₁) (scoped (suc m) r₂) sc in
      let d = and_two (proper r₁) (proper r₂) q in
      holds_bind (holds_both (place_sound p m env c.0) (place_ascending p env a)) λ s f.
      let s₁ = cut_to k s in
      let s₂ = taken_out k s in
      let a₁ = ascends_bind s₁ env (cut_ascending k s f.1) a in
      let a₂ = ascends_bind s₂ env (taken_ascending k s f.1) a in
      holds_bind (holds_both (result_sound r₁ (suc m) (s₁ ∷ env) a₁ c.1 d.0) (result_ascending r₁ (s₁ ∷ env) a₁)) λ t₁ f₁.
      holds_bind (holds_both (result_sound r₂ (suc m) (s₂ ∷ env) a₂ c.2 d.1) (result_ascending r₂ (s₂ ∷ env) a₂)) λ t₂ f₂.
      gave λ vs g l n.
      holds_bind (holds_enter l at n refl) λ n₁ h.
      holds_bind (f.0 vs g l n₁) λ x h₁.
      let v = x.result in
      holds_either
      (among (kind_of v) (test_kinds k))
      (λ y. fits_left t₁ t₂ f₁.1 f₂.1 (f₁.0 (v ∷ vs) (suits_bind m s₁ env v vs (cut_admits k s v h₁ y) g) l x.steps))
      (λ y. fits_right t₁ t₂ f₁.1 f₂.1 (f₂.0 (v ∷ vs) (suits_bind m s₂ env v vs (taken_admits k s v h₁ y) g) l x.steps))
  result_sound (Result.choose at r₁ r₂ r₃) m env a sc q =
      let c = and_three (scoped m r₁) (scoped m r₂) (scoped m r₃) sc in
      let d = and_three (proper r₁) (proper r₂) (proper r₃) q in
      holds_bind (result_sound r₁ m env a c.0 d.0) λ t₁ f₁.
      holds_bind (holds_both (result_sound r₂ m env a c.1 d.1) (result_ascending r₂ env a)) λ t₂ f₂.
      holds_bind (holds_both (result_sound r₃ m env a c.2 d.2) (result_ascending r₃ env a)) λ t₃ f₃.
      holds_wants at if_kinds t₁ λ w.
      gave λ vs g l n.
      holds_bind (holds_enter l at n refl) λ n₁ h.
      holds_bind (f₁ vs g l n₁) λ x h₁.
      holds_condition
      at
      x.result
      (within_kind if_kinds t₁ x.result w h₁)
      (fits_left t₂ t₃ f₂.1 f₃.1 (f₂.0 vs g l x.steps))
      (fits_right t₂ t₃ f₂.1 f₃.1 (f₃.0 vs g l x.steps))
  result_sound (Result.literal at v) m env a sc q =
      gave λ vs g l n. holds_bind (holds_enter l at n refl) λ n₁ h. gave (shape_of_admits v q)
  result_sound (Result.pack at ps) m env a sc q =
      holds_bind (pairs_sound ps m env a sc q) λ fs f.
      gave λ vs g l n.
      holds_bind (holds_enter l at n refl) λ n₁ h.
      holds_bind (f vs g l n₁) λ x h₁. gave h₁

  pairs_sound
      : (ps : Pairs) (m : ℕ) (env : List Shape) → Ascends env → scoped_pairs m ps ≡ true → proper_pairs ps ≡ true
      → Holds any
      (λ fs. (vs : List Value) → Suits m env vs → (l : Limits) (n : ℕ)
      → Holds Spent (λ x. admitted_members x.result fs && missing_have_null x.result fs ≡ true) (run_pairs ps l vs n))
      (check_pairs ps env)
  pairs_sound no_pairs m env a sc q = gave λ vs g l n. gave refl
  pairs_sound (pair i r ps) m env a sc q =
      let c = and_two (scoped m r) (scoped_pairs m ps) sc in
      let d = and_three (not (among_pairs i ps)) (proper r) (proper_pairs ps) q in
      holds_bind (result_sound r m env a c.0 d.1) λ s f.
      holds_bind (holds_both (pairs_sound ps m env a c.1 d.2) (pairs_ascending ps env a)) λ fs f₁.
      gave λ vs g l n.
      holds_bind (f vs g l n) λ x h.
      holds_bind (holds_both (f₁.0 vs g l x.steps) (pairs_named ps l vs x.steps)) λ xs h₁.
      gave (pack_admitted i x.result s xs.result fs f₁.1 (h₁.1 i ∙ not_true (among_pairs i ps) d.0) h h₁.0)

-- ---- the theorem

safely
    : (u : Shape) (o : Outcome ℕ (Ran Value))
    → Holds Spent (λ x. (admits u x.result ≡ true) × (distinct x.result ≡ true)) o → Safe u o
safely u (ok x) h = holds_ok h
safely u (refused n at) h = holds_number h

pub sound
    : (r : Result) (l : Limits) (s : Shape) (v : Value) (u : Shape)
    → ascending s ≡ true → distinct v ≡ true → scoped 1 r ≡ true → proper r ≡ true
    → check_reader r s ≡ ok u → admits s v ≡ true → Safe u (run_reader r l v)
unfolding check_reader run_reader
sound r l s v u a d c q e h =
    safely u (run r l (v ∷ []) 0)
    (holds_both
    (holds_of e (result_sound r 1 (s ∷ []) (ascends_bind s [] a ascends_none) c q) (v ∷ []) (suits_bind 0 s [] v [] h suits_none) l 0)
    (run_keeps_distinct r l (v ∷ []) 0 q (distinct_bind v [] d distinct_none)))
