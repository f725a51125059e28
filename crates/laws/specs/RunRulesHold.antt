-- The rules of running hold exactly where running gives a value, is stuck or runs out of steps. Assumes nothing.
use Rattle.std.specs.Prelude.{ℕ, suc, ◌≡◌, ◌↔◌, Bool, true, false, List, [], ◌∷◌}
use Rattle.std.proofs.Math.Path.{refl, ap}
use Rattle.std.proofs.Common.{◌∙◌, subst}
use Rattle.std.proofs.Math.Option.{Option, none, some}
use Rattle.definitions.specs.declared.Limits.{Limits}
use Rattle.definitions.specs.Bytes.{Bytes}
use Rattle.definitions.specs.Outcome.{Outcome, ok, refused}
use Rattle.definitions.specs.Value.{Value, Items, no_items, item, Members, count}
use Rattle.definitions.specs.Shape.{Kind, among, Shape}
use Rattle.definitions.specs.Admits.{kind_of}
use Rattle.definitions.specs.Reader.{Place, Conversion, Test, Result, Pairs, no_pairs, pair}
use Rattle.definitions.specs.Checking.{field_kinds, convert_kinds, list_kinds, test_kinds}
use Rattle.definitions.specs.Running.{Ran, gives, stuck_unless, field_value, converted, items_of, int_value, truth}
use Rattle.definitions.specs.Running.{run_place, run_items, run, run_pairs, run_reader}
use Rattle.laws.specs.SoundSteps.{enter_within}
use Rattle.laws.specs.RuleTells.{Tells, gave, told, told_refused, tells_map, tells_bind, tells_either, bind_ok, bind_refused}
use Rattle.laws.specs.CheckRules.{Converts, Means}
use Rattle.laws.specs.CheckRulesKinds.{converts, converts_as, means, means_as}
use Rattle.laws.specs.RunRules.{Is, IsNot, Field, Elements, counted, Converted}
use Rattle.laws.specs.RunRules.{PlaceRuns, runs_it, runs_field, Runs, runs_convert, runs_keep, runs_count, runs_each, runs_when_first}
use Rattle.laws.specs.RunRules.{runs_when_second, runs_if_true, runs_if_false, runs_literal, runs_pack, ItemsRun, runs_no_items, runs_item}
use Rattle.laws.specs.RunRules.{PairsRun, runs_no_pairs, runs_pair, PlaceHalts, place_out, field_part, field_stuck, Halts, out, convert_part}
use Rattle.laws.specs.RunRules.{convert_stuck, keep_part, count_part, count_stuck, each_part, each_stuck, each_items, when_part, when_first}
use Rattle.laws.specs.RunRules.{when_second, if_part, if_stuck, if_true, if_false, pack_part, ItemsHalt, this_item, later_item, PairsHalt}
use Rattle.laws.specs.RunRules.{this_pair, later_pair, Stuck, OutOfSteps}
use Rattle.laws.specs.RunRulesKinds.{field_is, field_kind, field_as, converted_is, converted_as, elements_is, elements_kind}
use Rattle.laws.specs.RunRulesKinds.{elements_as, truth_none, tells_enter, tells_stuck, tells_truth, not_entered, stuck_met}
use Rattle.laws.specs.RunRulesKinds.{stuck_unmet}

-- ---- what running comes to is what the rules say

module _ (l : Limits) where
  abbrev PlaceTells : List Value → ℕ → Place → Outcome ℕ (Ran Value) → Type 0
  PlaceTells env n p o = Tells (λ (x : Ran Value). PlaceRuns l env n p x.result x.steps) (PlaceHalts l env n p) o

  abbrev RunTells : List Value → ℕ → Result → Outcome ℕ (Ran Value) → Type 0
  RunTells env n r o = Tells (λ (x : Ran Value). Runs l env n r x.result x.steps) (Halts l env n r) o

  place_tells : (p : Place) (env : List Value) (n : ℕ) → PlaceTells env n p (run_place p l env n)
  unfolding run_place gives field_value field_kinds
  place_tells (Place.it at k) env n = tells_enter l at n _ place_out λ e. gave (runs_it e)
  place_tells (Place.field at name p) env n =
      tells_enter l at n _ place_out λ e.
      tells_bind (place_tells p env (suc n)) (λ m q h. field_part e h) λ x d.
      tells_bind {G = λ w. Field name x.result w} {R = λ m q. PlaceHalts l env n (Place.field at name p) m q}
      (tells_stuck at field_kinds x.result (λ s. field_stuck e d s) (λ s. gave (field_is name x.result s)))
      (λ m q h. h)
      λ w f. gave (runs_field e d f)

  items_tell
      : (r : Result) (env : List Value) → ((v : Value) (n : ℕ) → RunTells (v ∷ env) n r (run r l (v ∷ env) n)) → (vs : Items) (n : ℕ)
      → Tells
      (λ (x : Ran Items). ItemsRun l env n r vs x.result x.steps)
      (ItemsHalt l env n r vs)
      (run_items (λ v i. run r l (v ∷ env) i) vs n)
  unfolding run_items gives
  items_tell r env body no_items n = gave runs_no_items
  items_tell r env body (item v vs) n =
      tells_bind (body v n) (λ m q h. this_item h) λ x d.
      tells_bind (items_tell r env body vs x.steps) (λ m q h. later_item d h) λ xs ds. gave (runs_item d ds)

  mutual
    unfolding run gives list_kinds int_value

    run_tells : (r : Result) (env : List Value) (n : ℕ) → RunTells env n r (run r l env n)
    run_tells (Result.convert at c p) env n =
        tells_enter l at n _ out λ e.
        tells_bind (place_tells p env (suc n)) (λ m q h. convert_part e h) λ x d.
        tells_stuck at (convert_kinds c) x.result (λ s. convert_stuck e d (converts c) s) λ s.
        gave (runs_convert e d (converts c) s (converted_is c x.result s))
    run_tells (Result.keep at p) env n = tells_enter l at n _ out λ e.
        tells_map (λ m q h. keep_part e h) (λ x d. runs_keep e d) (place_tells p env (suc n))
    run_tells (Result.count at p) env n =
        tells_enter l at n _ out λ e.
        tells_bind (place_tells p env (suc n)) (λ m q h. count_part e h) λ x d.
        tells_stuck at list_kinds x.result (λ s. count_stuck e d s) λ s. gave (runs_count e d (elements_is x.result s))
    run_tells (Result.each at p r) env n =
        tells_enter l at n _ out λ e.
        tells_bind (place_tells p env (suc n)) (λ m q h. each_part e h) λ x d.
        tells_stuck at list_kinds x.result (λ s. each_stuck e d s) λ s.
        tells_bind (items_tell r env (λ v i. run_tells r (v ∷ env) i) (items_of x.result) x.steps)
        (λ m q h. each_items e d (elements_is x.result s) h)
        λ xs ds. gave (runs_each e d (elements_is x.result s) ds)
    run_tells (Result.when at k p r₁ r₂) env n =
        tells_enter l at n _ out λ e.
        tells_bind (place_tells p env (suc n)) (λ m q h. when_part e h) λ x d.
        tells_either (among (kind_of x.result) (test_kinds k))
        (λ s.
        tells_map (λ m q h. when_first e d (means k) s h) (λ y f. runs_when_first e d (means k) s f) (run_tells r₁ (x.result ∷ env) x.steps))
        (λ s.
        tells_map (λ m q h. when_second e d (means k) s h) (λ y f. runs_when_second e d (means k) s f) (run_tells r₂ (x.result ∷ env) x.steps))
    run_tells (Result.choose at r₁ r₂ r₃) env n =
        tells_enter l at n _ out λ e.
        tells_bind (run_tells r₁ env (suc n)) (λ m q h. if_part e h) λ x d.
        tells_truth at x.result (λ s. if_stuck e d s)
        (λ t.
        let c = subst (λ (v : Value). Runs l env (suc n) r₁ v x.steps) t d in
        tells_map (λ m q h. if_true e c h) (λ y f. runs_if_true e c f) (run_tells r₂ env x.steps))
        (λ t.
        let c = subst (λ (v : Value). Runs l env (suc n) r₁ v x.steps) t d in
        tells_map (λ m q h. if_false e c h) (λ y f. runs_if_false e c f) (run_tells r₃ env x.steps))
    run_tells (Result.literal at v) env n = tells_enter l at n _ out λ e. gave (runs_literal e)
    run_tells (Result.pack at ps) env n =
        tells_enter l at n _ out λ e. tells_bind (pairs_tell ps env (suc n)) (λ m q h. pack_part e h) λ x d. gave (runs_pack e d)

    pairs_tell
        : (ps : Pairs) (env : List Value) (n : ℕ)
        → Tells (λ (x : Ran Members). PairsRun l env n ps x.result x.steps) (PairsHalt l env n ps) (run_pairs ps l env n)
    pairs_tell no_pairs env n = gave runs_no_pairs
    pairs_tell (pair name r ps) env n =
        tells_bind (run_tells r env n) (λ m q h. this_pair h) λ x d.
        tells_bind (pairs_tell ps env x.steps) (λ m q h. later_pair d h) λ xs ds. gave (runs_pair d ds)

  -- ---- what the rules give is what running comes to

  -- a value behind so many steps
  abbrev ran : {A : Type 0} → A → ℕ → Outcome ℕ (Ran A)
  ran a m = ok (record { result = a; steps = m })

  field_gives : {name : Bytes} {v w : Value} (at : ℕ) → Field name v w → field_value at name v ≡ ok w
  unfolding field_value field_kinds
  field_gives {v = v} at f = stuck_met at field_kinds v _ (field_kind f) ∙ ap ok (field_as f)

  place_gives : (p : Place) {env : List Value} {n m : ℕ} {v : Value} → PlaceRuns l env n p v m → run_place p l env n ≡ ran v m
  unfolding run_place gives
  place_gives (Place.it at k) {n = n} (runs_it e) = bind_ok _ (enter_within l at n e)
  place_gives (Place.field at name p) {n = n} (runs_field e d f) =
      bind_ok _ (enter_within l at n e) ∙ bind_ok _ (place_gives p d) ∙ bind_ok _ (field_gives at f)

  place_halts : (p : Place) {env : List Value} {n m q : ℕ} → PlaceHalts l env n p m q → run_place p l env n ≡ refused m q
  unfolding run_place gives field_value field_kinds
  place_halts (Place.it at k) {n = n} (place_out o) = bind_refused _ (not_entered l at n o)
  place_halts (Place.field at name p) {n = n} (place_out o) = bind_refused _ (not_entered l at n o)
  place_halts (Place.field at name p) {n = n} (field_part e h) = bind_ok _ (enter_within l at n e) ∙ bind_refused _ (place_halts p h)
  place_halts (Place.field at name p) {n = n} (field_stuck {v = v} e d s) =
      bind_ok _ (enter_within l at n e) ∙ bind_ok _ (place_gives p d) ∙ bind_refused _ (stuck_unmet at field_kinds v _ s)

  -- the elements one by one, if what is run on each is told by the rules
  abbrev BodyGives : Result → List Value → Type 0
  BodyGives r env = (v w : Value) (n m : ℕ) → Runs l (v ∷ env) n r w m → run r l (v ∷ env) n ≡ ran w m

  abbrev BodyHalts : Result → List Value → Type 0
  BodyHalts r env = (v : Value) (n m q : ℕ) → Halts l (v ∷ env) n r m q → run r l (v ∷ env) n ≡ refused m q

  items_give
      : (r : Result) (env : List Value) → BodyGives r env → (vs : Items) {ws : Items} {n m : ℕ} → ItemsRun l env n r vs ws m
      → run_items (λ v i. run r l (v ∷ env) i) vs n ≡ ran ws m
  unfolding run_items gives
  items_give r env body no_items runs_no_items = refl
  items_give r env body (item v vs) (runs_item d ds) = bind_ok _ (body v _ _ _ d) ∙ bind_ok _ (items_give r env body vs ds)

  items_halt
      : (r : Result) (env : List Value) → BodyGives r env → BodyHalts r env → (vs : Items) {n m q : ℕ} → ItemsHalt l env n r vs m q
      → run_items (λ v i. run r l (v ∷ env) i) vs n ≡ refused m q
  unfolding run_items gives
  items_halt r env body halt no_items x = elim x [ ]
  items_halt r env body halt (item v vs) (this_item h) = bind_refused _ (halt v _ _ _ h)
  items_halt r env body halt (item v vs) (later_item d h) = bind_ok _ (body v _ _ _ d) ∙ bind_refused _ (items_halt r env body halt vs h)

  -- the elements that the rules name
  through
      : {o : Outcome ℕ (Ran Items)} {v : Value} {vs : Items} (r : Result) (env : List Value) (n : ℕ) → Elements v vs
      → run_items (λ v i. run r l (v ∷ env) i) vs n ≡ o → run_items (λ v i. run r l (v ∷ env) i) (items_of v) n ≡ o
  through r env n f e = ap (λ (vs : Items). run_items (λ v i. run r l (v ∷ env) i) vs n) (elements_as f) ∙ e

  -- what `when` and `if` choose
  chosen_first
      : (x y : Outcome ℕ (Ran Value)) {o : Outcome ℕ (Ran Value)} {k : Test} {ks : List Kind} (v : Value) → Means k ks → Is ks v → x ≡ o
      → elim (among (kind_of v) (test_kinds k)) [ true ↦ x | false ↦ y ] ≡ o
  chosen_first x y v h s e = rw (means_as h, s) e

  chosen_second
      : (x y : Outcome ℕ (Ran Value)) {o : Outcome ℕ (Ran Value)} {k : Test} {ks : List Kind} (v : Value) → Means k ks → IsNot ks v → y ≡ o
      → elim (among (kind_of v) (test_kinds k)) [ true ↦ x | false ↦ y ] ≡ o
  chosen_second x y v h s e = rw (means_as h, s) e

  converted_met
      : {c : Conversion} {ks : List Kind} {s : Shape} (at m : ℕ) (v : Value) {w : Value} → Converts c ks s → Is ks v → Converted c v w
      → stuck_unless at (convert_kinds c) v (ran (converted c v) m) ≡ ran w m
  converted_met at m v h e k = rw ((converts_as h).0, converted_as k) (stuck_met at _ v _ e)

  converted_unmet
      : {c : Conversion} {ks : List Kind} {s : Shape} (at m : ℕ) (v : Value) → Converts c ks s → IsNot ks v
      → stuck_unless at (convert_kinds c) v (ran (converted c v) m) ≡ refused 12 at
  converted_unmet at m v h e = rw (converts_as h).0 (stuck_unmet at _ v _ e)

  count_as : {v : Value} {vs : Items} (m : ℕ) → Elements v vs → ran (int_value (count (items_of v))) m ≡ ran (counted (count vs)) m
  unfolding int_value
  count_as m f = ap (λ (vs : Items). ran (counted (count vs)) m) (elements_as f)

  mutual
    unfolding run gives list_kinds truth

    run_gives : (r : Result) {env : List Value} {n m : ℕ} {v : Value} → Runs l env n r v m → run r l env n ≡ ran v m
    run_gives (Result.convert at c p) {n = n} {m} (runs_convert {v = v} e d h s k) =
        bind_ok _ (enter_within l at n e) ∙ bind_ok _ (place_gives p d) ∙ converted_met at m v h s k
    run_gives (Result.keep at p) {n = n} (runs_keep e d) = bind_ok _ (enter_within l at n e) ∙ place_gives p d
    run_gives (Result.count at p) {n = n} {m} (runs_count {v = v} e d f) =
        bind_ok _ (enter_within l at n e)
        ∙ bind_ok _ (place_gives p d)
        ∙ stuck_met at list_kinds v _ (elements_kind f)
        ∙ count_as m f
    run_gives (Result.each at p r) {env} {n} (runs_each {m = m} {v = v} {vs = vs} e d f ds) =
        bind_ok _ (enter_within l at n e)
        ∙ bind_ok _ (place_gives p d)
        ∙ stuck_met at list_kinds v _ (elements_kind f)
        ∙ bind_ok _ (through r env m f (items_give r env (λ a b i j h. run_gives r h) vs ds))
    run_gives (Result.when at k p r₁ r₂) {n = n} (runs_when_first {v = v} e d h s f) =
        bind_ok _ (enter_within l at n e) ∙ bind_ok _ (place_gives p d) ∙ chosen_first _ _ v h s (run_gives r₁ f)
    run_gives (Result.when at k p r₁ r₂) {n = n} (runs_when_second {v = v} e d h s f) =
        bind_ok _ (enter_within l at n e) ∙ bind_ok _ (place_gives p d) ∙ chosen_second _ _ v h s (run_gives r₂ f)
    run_gives (Result.choose at r₁ r₂ r₃) {n = n} (runs_if_true e d f) =
        bind_ok _ (enter_within l at n e) ∙ bind_ok _ (run_gives r₁ d) ∙ run_gives r₂ f
    run_gives (Result.choose at r₁ r₂ r₃) {n = n} (runs_if_false e d f) =
        bind_ok _ (enter_within l at n e) ∙ bind_ok _ (run_gives r₁ d) ∙ run_gives r₃ f
    run_gives (Result.literal at v) {n = n} (runs_literal e) = bind_ok _ (enter_within l at n e)
    run_gives (Result.pack at ps) {n = n} (runs_pack e d) = bind_ok _ (enter_within l at n e) ∙ bind_ok _ (pairs_give ps d)

    pairs_give : (ps : Pairs) {env : List Value} {n m : ℕ} {ms : Members} → PairsRun l env n ps ms m → run_pairs ps l env n ≡ ran ms m
    pairs_give no_pairs runs_no_pairs = refl
    pairs_give (pair name r ps) (runs_pair d ds) = bind_ok _ (run_gives r d) ∙ bind_ok _ (pairs_give ps ds)

  abbrev choice : (at : ℕ) → Option Bool → (x y : Outcome ℕ (Ran Value)) → Outcome ℕ (Ran Value)
  choice at o x y = elim o [ none ↦ refused 12 at | some b ↦ elim b [ true ↦ x | false ↦ y ] ]

  if_none : (at : ℕ) (v : Value) (x y : Outcome ℕ (Ran Value)) → IsNot (Kind.bool ∷ []) v → choice at (truth v) x y ≡ refused 12 at
  if_none at v x y s = ap (λ (o : Option Bool). choice at o x y) (truth_none v s)

  mutual
    unfolding run gives list_kinds truth

    run_halts : (r : Result) {env : List Value} {n m q : ℕ} → Halts l env n r m q → run r l env n ≡ refused m q
    run_halts (Result.convert at c p) {n = n} (out o) = bind_refused _ (not_entered l at n o)
    run_halts (Result.convert at c p) {n = n} (convert_part e h) = bind_ok _ (enter_within l at n e) ∙ bind_refused _ (place_halts p h)
    run_halts (Result.convert at c p) {n = n} (convert_stuck {m = m} {v = v} e d h s) =
        bind_ok _ (enter_within l at n e) ∙ bind_ok _ (place_gives p d) ∙ converted_unmet at m v h s
    run_halts (Result.keep at p) {n = n} (out o) = bind_refused _ (not_entered l at n o)
    run_halts (Result.keep at p) {n = n} (keep_part e h) = bind_ok _ (enter_within l at n e) ∙ place_halts p h
    run_halts (Result.count at p) {n = n} (out o) = bind_refused _ (not_entered l at n o)
    run_halts (Result.count at p) {n = n} (count_part e h) = bind_ok _ (enter_within l at n e) ∙ bind_refused _ (place_halts p h)
    run_halts (Result.count at p) {n = n} (count_stuck {v = v} e d s) =
        bind_ok _ (enter_within l at n e) ∙ bind_ok _ (place_gives p d) ∙ stuck_unmet at list_kinds v _ s
    run_halts (Result.each at p r) {n = n} (out o) = bind_refused _ (not_entered l at n o)
    run_halts (Result.each at p r) {n = n} (each_part e h) = bind_ok _ (enter_within l at n e) ∙ bind_refused _ (place_halts p h)
    run_halts (Result.each at p r) {n = n} (each_stuck {v = v} e d s) =
        bind_ok _ (enter_within l at n e) ∙ bind_ok _ (place_gives p d) ∙ stuck_unmet at list_kinds v _ s
    run_halts (Result.each at p r) {env} {n} (each_items {i = i} {v = v} {vs = vs} e d f h) =
        bind_ok _ (enter_within l at n e)
        ∙ bind_ok _ (place_gives p d)
        ∙ stuck_met at list_kinds v _ (elements_kind f)
        ∙ bind_refused _ (through r env i f (items_halt r env (λ a b x y g. run_gives r g) (λ a x y z g. run_halts r g) vs h))
    run_halts (Result.when at k p r₁ r₂) {n = n} (out o) = bind_refused _ (not_entered l at n o)
    run_halts (Result.when at k p r₁ r₂) {n = n} (when_part e h) = bind_ok _ (enter_within l at n e) ∙ bind_refused _ (place_halts p h)
    run_halts (Result.when at k p r₁ r₂) {n = n} (when_first {v = v} e d h s f) =
        bind_ok _ (enter_within l at n e) ∙ bind_ok _ (place_gives p d) ∙ chosen_first _ _ v h s (run_halts r₁ f)
    run_halts (Result.when at k p r₁ r₂) {n = n} (when_second {v = v} e d h s f) =
        bind_ok _ (enter_within l at n e) ∙ bind_ok _ (place_gives p d) ∙ chosen_second _ _ v h s (run_halts r₂ f)
    run_halts (Result.choose at r₁ r₂ r₃) {n = n} (out o) = bind_refused _ (not_entered l at n o)
    run_halts (Result.choose at r₁ r₂ r₃) {n = n} (if_part e h) = bind_ok _ (enter_within l at n e) ∙ bind_refused _ (run_halts r₁ h)
    run_halts (Result.choose at r₁ r₂ r₃) {n = n} (if_stuck {v = v} e d s) =
        bind_ok _ (enter_within l at n e) ∙ bind_ok _ (run_gives r₁ d) ∙ if_none at v _ _ s
    run_halts (Result.choose at r₁ r₂ r₃) {n = n} (if_true e d h) =
        bind_ok _ (enter_within l at n e) ∙ bind_ok _ (run_gives r₁ d) ∙ run_halts r₂ h
    run_halts (Result.choose at r₁ r₂ r₃) {n = n} (if_false e d h) =
        bind_ok _ (enter_within l at n e) ∙ bind_ok _ (run_gives r₁ d) ∙ run_halts r₃ h
    run_halts (Result.literal at v) {n = n} (out o) = bind_refused _ (not_entered l at n o)
    run_halts (Result.pack at ps) {n = n} (out o) = bind_refused _ (not_entered l at n o)
    run_halts (Result.pack at ps) {n = n} (pack_part e h) = bind_ok _ (enter_within l at n e) ∙ bind_refused _ (pairs_halt ps h)

    pairs_halt : (ps : Pairs) {env : List Value} {n m q : ℕ} → PairsHalt l env n ps m q → run_pairs ps l env n ≡ refused m q
    pairs_halt no_pairs x = elim x [ ]
    pairs_halt (pair name r ps) (this_pair h) = bind_refused _ (run_halts r h)
    pairs_halt (pair name r ps) (later_pair d h) = bind_ok _ (run_gives r d) ∙ bind_refused _ (pairs_halt ps h)

-- ---- a reader

pub runs_exactly
    : (r : Result) (l : Limits) (v : Value) (x : Ran Value)
    → (run_reader r l v ≡ ok x) ↔ Runs l (v ∷ []) 0 r x.result x.steps
unfolding run_reader
runs_exactly r l v x = (told (run_tells l r (v ∷ []) 0), run_gives l r)

pub halts_exactly
    : (r : Result) (l : Limits) (v : Value) (n p : ℕ) → (run_reader r l v ≡ refused n p) ↔ Halts l (v ∷ []) 0 r n p
unfolding run_reader
halts_exactly r l v n p = (told_refused (run_tells l r (v ∷ []) 0), run_halts l r)

pub stuck_exactly : (r : Result) (l : Limits) (v : Value) (p : ℕ) → (run_reader r l v ≡ refused 12 p) ↔ Stuck l (v ∷ []) 0 r p
stuck_exactly r l v p = halts_exactly r l v 12 p

pub out_exactly : (r : Result) (l : Limits) (v : Value) (p : ℕ) → (run_reader r l v ≡ refused 13 p) ↔ OutOfSteps l (v ∷ []) 0 r p
out_exactly r l v p = halts_exactly r l v 13 p
