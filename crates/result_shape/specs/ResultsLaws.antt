-- What a result gives where it passes, from what its parts give, and how it is joined into a shape. Assumes nothing.
use Prim.Native.Nat.{ℕ, zero, suc, Ordering, ◌≤◌, ◌<◌}
use Rattle.std.proofs.Common.{le_refl, arith, sym, ap, ◌∙◌, inl, inr}
use Rattle.std.specs.Prelude.{◌≡◌, refl, ◌⊎◌, Bool, true, false, not, ◌||◌, List, [], ◌∷◌, length, get_or}
use Rattle.definitions.specs.Bytes.{Bytes, order, same, found}
use Rattle.definitions.specs.Value.{Value}
use Rattle.definitions.specs.Outcome.{Outcome, ok, refused, ◌>>=◌}
use Rattle.definitions.specs.Shape.{Kind, Shape, shape, Element, no_list, list_of, Record, no_rec, rec_of, Fields, no_fields, field, nothing, find}
use Rattle.definitions.specs.Shape.{within, element_of, record_of, ascending, ascending_element, ascending_record, ascending_fields, forms, forms_fields}
use Rattle.definitions.specs.Shape.{only_rec, only_list, only_null, only_bool, only_numeric, only_text, int_only}
use Rattle.definitions.specs.Join.{join, join_element, join_record, insert, shape_of}
use Rattle.definitions.specs.Reader.{Place, Conversion, to_int, to_dec, to_bool, to_text, Test, Result, Pairs, no_pairs, pair, among_pairs}
use Rattle.definitions.specs.Checking.{convert_kinds, list_kinds, if_kinds, wants, convert_shape, element_shape, cut_to, taken_out}
use Rattle.definitions.specs.Checking.{check_place, check, check_pairs}
use Rattle.laws.specs.Bools.{and_left, and_right, and_three, and_intro, clash}
use Rattle.laws.specs.Fields.{ascending_first, ascending_rest}
use Rattle.laws.specs.OrderInduction.{ascending_of_element, ascending_of_record}
use Rattle.laws.specs.SizeLaws.{forms_mono}
use Rattle.laws.specs.JoinLaws.{nothing_ascending, join_ascending, join_upper_left, join_assoc, element_nothing, record_nothing}
use Rattle.laws.specs.Tests.{lt_or_le}
use Rattle.laws.specs.Readers.{proper, proper_pairs}
use Rattle.laws.specs.SoundHolds.{holds_of}
use Rattle.laws.specs.SoundShapes.{Ascends, result_ascending}
use Rattle.growing.specs.Growing.{place, named, in_order, join_in}
use Rattle.growing.specs.GrowingForms.{place_lt, place_eq, place_gt}
use Rattle.growing.specs.GrowingLaws.{named_field, apart, rising, place_ascending}
use Rattle.growing.specs.HeadLaws.{SameParts}
use Rattle.checking.specs.Bindings.{Bound, Bindings}
use Rattle.result_shape.specs.Results.{Bare, bare_convert, bare_count, bare_null, bare_bool, bare_number, bare_text}
use Rattle.result_shape.specs.Results.{EachGives, WhenGives, ChooseGives, Given, given_none, given_pair}

-- ---- outcomes

is_ok : {A : Type 0} → Outcome ℕ A → Bool
is_ok (ok a) = true
is_ok (refused n at) = false

pub never_ok {ℓ} : {X : Type ℓ} {A : Type 0} {o : Outcome ℕ A} {a : A} {n at : ℕ} → o ≡ ok a → o ≡ refused n at → X
unfolding is_ok
never_ok e f = clash (ap is_ok e) (ap is_ok f)

-- what a bind that passes is made of
record BoundOk {A B : Type 0} (o : Outcome ℕ A) (f : A → Outcome ℕ B) (b : B) : Type 0 where
  value : A
  first : o ≡ ok value
  second : f value ≡ ok b

bind_ok : {A B : Type 0} (o : Outcome ℕ A) (f : A → Outcome ℕ B) {b : B} → o >>= f ≡ ok b → BoundOk o f b
unfolding ◌>>=◌
bind_ok (ok a) f e = record { value = a; first = refl; second = e }
bind_ok (refused n at) f e = never_ok e refl

value_of : {A : Type 0} → A → Outcome ℕ A → A
value_of a (ok b) = b
value_of a (refused n at) = a

pub ok_same : {A : Type 0} {o : Outcome ℕ A} {a b : A} → o ≡ ok a → o ≡ ok b → a ≡ b
unfolding value_of
ok_same {a = a} e f = ap (value_of a) (sym e ∙ f)

wants_ok : {A : Type 0} (at : ℕ) (ks : List Kind) (s : Shape) (out : Outcome ℕ A) {a : A} → wants at ks s out ≡ ok a → out ≡ ok a
unfolding wants
wants_ok {A} at ks s out {a} e = go (within ks s) e
  where
    go
        : (b : Bool) → ◌≡◌ {A = Outcome ℕ A} (elim b as (λ (x : Bool). Outcome ℕ A) [ true ↦ out | false ↦ refused 9 at ]) (ok a)
        → ◌≡◌ {A = Outcome ℕ A} out (ok a)
    go true e = e
    go false e = never_ok e refl

-- ---- what each form gives

pub keep_gives : (at : ℕ) (q : Place) (env : List Shape) (t : Shape) → check (Result.keep at q) env ≡ ok t → check_place q env ≡ ok t
unfolding check
keep_gives at q env t e = e

pub convert_Gives
    : (at : ℕ) (c : Conversion) (q : Place) (env : List Shape) (t : Shape) → check (Result.convert at c q) env ≡ ok t → t ≡ convert_shape c
unfolding check
convert_Gives at c q env t e =
    let a = bind_ok (check_place q env) _ e in
    ok_same {o = ok t} refl (sym (wants_ok at (convert_kinds c) a.value (ok (convert_shape c)) a.second))

pub count_Gives
    : (at : ℕ) (q : Place) (env : List Shape) (t : Shape) → check (Result.count at q) env ≡ ok t → t ≡ only_numeric int_only
unfolding check
count_Gives at q env t e =
    let a = bind_ok (check_place q env) _ e in
    ok_same {o = ok t} refl (sym (wants_ok at list_kinds a.value (ok (only_numeric int_only)) a.second))

pub literal_gives : (at : ℕ) (v : Value) (env : List Shape) (t : Shape) → check (Result.literal at v) env ≡ ok t → t ≡ shape_of v
unfolding check
literal_gives at v env t e = ok_same {o = ok t} refl (sym e)

pub each_gives
    : (at : ℕ) (q : Place) (r : Result) (env : List Shape) (t : Shape) → check (Result.each at q r) env ≡ ok t → EachGives q r env t
unfolding check
each_gives at q r env t e =
    let a = bind_ok (check_place q env) _ e in
    let b = bind_ok (check r (element_shape (element_of a.value) ∷ env)) _ a.second in
    record {
      over = a.value;
      part = b.value;
      place = a.first;
      result = b.first;
      same = ok_same {o = ok t} refl (sym (wants_ok at list_kinds a.value (ok (only_list (list_of b.value))) b.second));
    }

pub when_gives
    : (at : ℕ) (k : Test) (q : Place) (r₁ r₂ : Result) (env : List Shape) (t : Shape) → check (Result.when at k q r₁ r₂) env ≡ ok t
    → WhenGives k q r₁ r₂ env t
unfolding check
when_gives at k q r₁ r₂ env t e =
    let a = bind_ok (check_place q env) _ e in
    let b = bind_ok (check r₁ (cut_to k a.value ∷ env)) _ a.second in
    let c = bind_ok (check r₂ (taken_out k a.value ∷ env)) _ b.second in
    record {
      over = a.value;
      first = b.value;
      second = c.value;
      place = a.first;
      then_result = b.first;
      else_result = c.first;
      same = ok_same {o = ok t} refl (sym c.second);
    }

pub choose_gives
    : (at : ℕ) (r₁ r₂ r₃ : Result) (env : List Shape) (t : Shape) → check (Result.choose at r₁ r₂ r₃) env ≡ ok t → ChooseGives r₂ r₃ env t
unfolding check
choose_gives at r₁ r₂ r₃ env t e =
    let a = bind_ok (check r₁ env) _ e in
    let b = bind_ok (check r₂ env) _ a.second in
    let c = bind_ok (check r₃ env) _ b.second in
    record {
      first = b.value;
      second = c.value;
      then_result = b.first;
      else_result = c.first;
      same = ok_same {o = ok t} refl (sym (wants_ok at if_kinds a.value (ok (join b.value c.value)) c.second));
    }

-- ---- packs

-- the shapes of a pack's results
record PairsGive (ps : Pairs) (env : List Shape) (fs : Fields) : Type 0 where
  pub shapes : Fields
  pub given : Given env ps shapes
  pub same : fs ≡ in_order shapes

pairs_give : (ps : Pairs) {env : List Shape} {fs : Fields} → check_pairs ps env ≡ ok fs → PairsGive ps env fs
unfolding check in_order
pairs_give no_pairs {fs = fs} e = record { shapes = no_fields; given = given_none; same = ok_same {o = ok fs} refl (sym e) }
pairs_give (pair n r ps) {env} {fs} e =
    let a = bind_ok (check r env) _ e in
    let b = bind_ok (check_pairs ps env) _ a.second in
    let c = pairs_give ps b.first in
    record {
      shapes = field n a.value c.shapes;
      given = given_pair a.first c.given;
      same = ok_same {o = ok fs} refl (sym b.second) ∙ ap (insert n a.value) c.same;
    }

pub record PackGives (ps : Pairs) (env : List Shape) (t : Shape) : Type 0 where
  pub shapes : Fields
  pub given : Given env ps shapes
  pub same : t ≡ only_rec (rec_of (in_order shapes))

pub pack_gives : (at : ℕ) (ps : Pairs) (env : List Shape) (t : Shape) → check (Result.pack at ps) env ≡ ok t → PackGives ps env t
unfolding check
pack_gives at ps env t e =
    let a = bind_ok (check_pairs ps env) _ e in
    let b = pairs_give ps a.first in
    record {
      shapes = b.shapes;
      given = b.given;
      same = ok_same {o = ok t} refl (sym a.second) ∙ ap (λ (fs : Fields). only_rec (rec_of fs)) b.same;
    }

pub given_named : {env : List Shape} {ps : Pairs} {gs : Fields} → Given env ps gs → (k : Bytes) → among_pairs k ps ≡ named gs k
unfolding among_pairs named find found
given_named given_none k = refl
given_named (given_pair {n} {t = t} {gs = gs} e g) k = ap (λ (b : Bool). same k n || b) (given_named g k) ∙ sym (named_field k n t gs)

pub given_rising : {env : List Shape} {ps : Pairs} {gs : Fields} → Ascends env → Given env ps gs → rising gs ≡ true
unfolding rising
given_rising a given_none = refl
given_rising {env} a (given_pair {r = r} e g) = and_intro (holds_of e (result_ascending r env a)) (given_rising a g)

pub given_apart : {env : List Shape} {ps : Pairs} {gs : Fields} → Given env ps gs → proper_pairs ps ≡ true → apart gs ≡ true
unfolding apart proper
given_apart given_none h = refl
given_apart (given_pair {n} {r} {ps} e g) h =
    let a = and_three (not (among_pairs n ps)) (proper r) (proper_pairs ps) h in
    and_intro (ap not (sym (given_named g n)) ∙ a.0) (given_apart g a.2)

-- the first of a pack's results
pub record FirstGiven (env : List Shape) (n : Bytes) (r : Result) (ps : Pairs) (gs : Fields) : Type 0 where
  pub shape : Shape
  pub others : Fields
  pub gives : check r env ≡ ok shape
  pub given : Given env ps others
  pub same : gs ≡ field n shape others

pub first_given : {env : List Shape} {n : Bytes} {r : Result} {ps : Pairs} {gs : Fields} → Given env (pair n r ps) gs → FirstGiven env n r ps gs
first_given (given_pair {t = t} {gs = gs} e g) = record { shape = t; others = gs; gives = e; given = g; same = refl }

pub no_given : {env : List Shape} {gs : Fields} → Given env no_pairs gs → gs ≡ no_fields
no_given given_none = refl

-- ---- shapes without parts

-- nothing but kinds
pub record Partless (t : Shape) : Type 0 where
  pub element : element_of t ≡ no_list
  pub fields : record_of t ≡ no_rec

convert_partless : (c : Conversion) → Partless (convert_shape c)
unfolding convert_shape only_numeric only_bool only_text element_of record_of
convert_partless to_int = record { element = refl; fields = refl }
convert_partless to_dec = record { element = refl; fields = refl }
convert_partless to_bool = record { element = refl; fields = refl }
convert_partless to_text = record { element = refl; fields = refl }

pub bare_partless : {r : Result} {t : Shape} → Bare r t → Partless t
unfolding only_numeric only_bool only_text only_null element_of record_of
bare_partless (bare_convert {c = c}) = convert_partless c
bare_partless bare_count = record { element = refl; fields = refl }
bare_partless bare_null = record { element = refl; fields = refl }
bare_partless bare_bool = record { element = refl; fields = refl }
bare_partless bare_number = record { element = refl; fields = refl }
bare_partless bare_text = record { element = refl; fields = refl }

-- joined in, it adds nothing but kinds
pub partless_joined : (s t : Shape) → Partless t → SameParts s (join s t)
unfolding join element_of record_of forms
partless_joined (shape n b m x e r) (shape n' b' m' x' e' r') h =
    let f : join_element e e' ≡ e = ap (join_element e) h.element ∙ element_nothing e in
    let g : join_record r r' ≡ r = ap (join_record r) h.fields ∙ record_nothing r in
    record { element = f; fields = g; counts = rw (f, g) }

-- ---- names ascend

-- what is left of a shape
pub bound_ascends : {shapes p : List ℕ} {deep row kinds : ℕ} {s : Shape} → Bound shapes p deep row kinds s → ascending s ≡ true
unfolding ascending element_of record_of
bound_ascends {s = shape n b m x e r} h = and_intro (go_element e h.element) (go_record r h.members)
  where
    go_element : (f : Element) → ((a : Shape) → f ≡ list_of a → element_of h.base ≡ list_of a) → ascending_element f ≡ true
    go_element no_list g = refl
    go_element (list_of a) g = sym (ap ascending_element (g a refl)) ∙ ascending_of_element h.base h.ascends

    go_record : (q : Record) → ((fs : Fields) → q ≡ rec_of fs → record_of h.base ≡ rec_of fs) → ascending_record q ≡ true
    go_record no_rec g = refl
    go_record (rec_of fs) g = sym (ap ascending_record (g fs refl)) ∙ ascending_of_record h.base h.ascends

get_d_past : (env : List Shape) (k : ℕ) → length env ≤ k → get_or env k nothing ≡ nothing
get_d_past [] k l = refl
get_d_past (s ∷ env) zero l = absurd (let z : ⊥ = omega arith in z)
get_d_past (s ∷ env) (suc k) l = get_d_past env k (omega arith)

pub bindings_ascend : {shapes p bindings : List ℕ} {deep d : ℕ} {env : List Shape} → Bindings shapes p bindings deep d env → Ascends env
bindings_ascend {d = d} {env} h k = go (lt_or_le k d)
  where
    go : (k < d) ⊎ (d ≤ k) → ascending (get_or env k nothing) ≡ true
    go (inl l) = bound_ascends (h.holds k l)
    go (inr l) = ap ascending (get_d_past env k (omega (arith, h.many))) ∙ nothing_ascending

-- a result that passes
pub given_ascends : (r : Result) (env : List Shape) (t : Shape) → Ascends env → check r env ≡ ok t → ascending t ≡ true
given_ascends r env t a e = holds_of e (result_ascending r env a)

-- ---- a join after a join

-- "both branches": joined in one after the other
pub join_both
    : (s t u v : Shape) → ascending s ≡ true → ascending t ≡ true → ascending u ≡ true → v ≡ join t u → join (join s t) u ≡ join s v
join_both s t u v i j k e = join_assoc s t u i j k ∙ ap (join s) (sym e)

pub forms_joined : (s t : Shape) → ascending s ≡ true → ascending t ≡ true → forms s ≤ forms (join s t)
forms_joined s t i j = forms_mono s (join s t) i (join_ascending s t i j) (join_upper_left s t i j)

-- ---- members joined in take no form away

forms_place
    : (n : Bytes) (a st : Shape) (fs : Fields) → ascending a ≡ true → ascending_fields fs ≡ true
    → forms_fields fs ≤ forms_fields (place n st (λ s. join s a) fs)
unfolding forms place
forms_place n a st no_fields i h = omega arith
forms_place n a st (field m b gs) i h =
    go (forms_place n a st gs i (ascending_rest m b gs h)) (forms_joined b a (ascending_first m b gs h) i) (order n m) refl
  where
    go
        : forms_fields gs ≤ forms_fields (place n st (λ s. join s a) gs) → forms b ≤ forms (join b a) → (o : Ordering) → order n m ≡ o
        → forms_fields (field m b gs) ≤ forms_fields (place n st (λ s. join s a) (field m b gs))
    go k l Ordering.lt e = omega (arith, ap forms_fields (place_lt n st (λ s. join s a) m b gs e))
    go k l Ordering.eq e = omega (arith, ap forms_fields (place_eq n st (λ s. join s a) m b gs e))
    go k l Ordering.gt e = omega (arith, ap forms_fields (place_gt n st (λ s. join s a) m b gs e))

pub forms_join_in
    : (gs : Fields) (st : Shape) (fs : Fields) → rising gs ≡ true → ascending st ≡ true → ascending_fields fs ≡ true
    → forms_fields fs ≤ forms_fields (join_in gs st fs)
unfolding join_in rising
forms_join_in no_fields st fs i j k = le_refl (forms_fields fs)
forms_join_in (field n a gs) st fs i j k =
    let x : ascending a ≡ true = and_left (ascending a) (rising gs) i in
    omega (
      arith,
      forms_place n a st fs x k,
      forms_join_in gs st (place n st (λ s. join s a) fs) (and_right (ascending a) (rising gs) i) j (place_ascending n a st fs x j k),
    )

-- the first of the members joined in
pub join_first
    : (n : Bytes) (a : Shape) (gs hs : Fields) (st : Shape) (fs : Fields) → hs ≡ field n a gs
    → join_in hs st fs ≡ join_in gs st (place n st (λ s. join s a) fs)
unfolding join_in
join_first n a gs hs st fs e = ap (λ (x : Fields). join_in x st fs) e

pub join_none : (hs : Fields) (st : Shape) (fs : Fields) → hs ≡ no_fields → join_in hs st fs ≡ fs
unfolding join_in
join_none hs st fs e = ap (λ (x : Fields). join_in x st fs) e
