-- Which form a code is of. Assumes nothing.
use Rattle.std.specs.Prelude.{ℕ, ◌≤◌, ◌<◌, ◌≡◌, refl, true, false}
use Rattle.std.proofs.Common.{arith}
use Rattle.definitions.specs.Value.{Value}
use Rattle.definitions.specs.Reader.{Place, Conversion, to_int, to_dec, to_bool, to_text, Test, Result, Pairs}
use Rattle.forms.specs.Forms.{place_code, conversion_code, literal_code, form_code}

pub data IsEach : Result → Type 0 where
  is_each : {at : ℕ} {q : Place} {r : Result} → IsEach (Result.each at q r)

pub data IsWhen : Result → Type 0 where
  is_when : {at : ℕ} {k : Test} {q : Place} {r₁ r₂ : Result} → IsWhen (Result.when at k q r₁ r₂)

pub data IsChoose : Result → Type 0 where
  is_choose : {at : ℕ} {r₁ r₂ r₃ : Result} → IsChoose (Result.choose at r₁ r₂ r₃)

pub data IsPack : Result → Type 0 where
  is_pack : {at : ℕ} {ps : Pairs} → IsPack (Result.pack at ps)

pub data IsCount : Result → Type 0 where
  is_count : {at : ℕ} {q : Place} → IsCount (Result.count at q)

-- the value of its place
pub data IsSame : Result → Type 0 where
  is_convert : {at : ℕ} {c : Conversion} {q : Place} → IsSame (Result.convert at c q)
  is_keep : {at : ℕ} {q : Place} → IsSame (Result.keep at q)

pub data IsLiteral : Result → Type 0 where
  is_literal : {at : ℕ} {v : Value} → IsLiteral (Result.literal at v)

pub each_of : (r : Result) → form_code r ≡ 9 → IsEach r
unfolding form_code conversion_code literal_code
each_of (Result.convert at to_int q) e = absurd (let z : ⊥ = omega (arith, e) in z)
each_of (Result.convert at to_dec q) e = absurd (let z : ⊥ = omega (arith, e) in z)
each_of (Result.convert at to_bool q) e = absurd (let z : ⊥ = omega (arith, e) in z)
each_of (Result.convert at to_text q) e = absurd (let z : ⊥ = omega (arith, e) in z)
each_of (Result.keep at q) e = absurd (let z : ⊥ = omega (arith, e) in z)
each_of (Result.count at q) e = absurd (let z : ⊥ = omega (arith, e) in z)
each_of (Result.each at q r) e = is_each
each_of (Result.when at k q r₁ r₂) e = absurd (let z : ⊥ = omega (arith, e) in z)
each_of (Result.choose at r₁ r₂ r₃) e = absurd (let z : ⊥ = omega (arith, e) in z)
each_of (Result.literal at Value.null) e = absurd (let z : ⊥ = omega (arith, e) in z)
each_of (Result.literal at (Value.bool true)) e = absurd (let z : ⊥ = omega (arith, e) in z)
each_of (Result.literal at (Value.bool false)) e = absurd (let z : ⊥ = omega (arith, e) in z)
each_of (Result.literal at (Value.number x)) e = absurd (let z : ⊥ = omega (arith, e) in z)
each_of (Result.literal at (Value.text t)) e = absurd (let z : ⊥ = omega (arith, e) in z)
each_of (Result.literal at (Value.list vs)) e = absurd (let z : ⊥ = omega (arith, e) in z)
each_of (Result.literal at (Value.rec ms)) e = absurd (let z : ⊥ = omega (arith, e) in z)
each_of (Result.pack at ps) e = absurd (let z : ⊥ = omega (arith, e) in z)

pub when_of : (r : Result) → form_code r ≡ 10 → IsWhen r
unfolding form_code conversion_code literal_code
when_of (Result.convert at to_int q) e = absurd (let z : ⊥ = omega (arith, e) in z)
when_of (Result.convert at to_dec q) e = absurd (let z : ⊥ = omega (arith, e) in z)
when_of (Result.convert at to_bool q) e = absurd (let z : ⊥ = omega (arith, e) in z)
when_of (Result.convert at to_text q) e = absurd (let z : ⊥ = omega (arith, e) in z)
when_of (Result.keep at q) e = absurd (let z : ⊥ = omega (arith, e) in z)
when_of (Result.count at q) e = absurd (let z : ⊥ = omega (arith, e) in z)
when_of (Result.each at q r) e = absurd (let z : ⊥ = omega (arith, e) in z)
when_of (Result.when at k q r₁ r₂) e = is_when
when_of (Result.choose at r₁ r₂ r₃) e = absurd (let z : ⊥ = omega (arith, e) in z)
when_of (Result.literal at Value.null) e = absurd (let z : ⊥ = omega (arith, e) in z)
when_of (Result.literal at (Value.bool true)) e = absurd (let z : ⊥ = omega (arith, e) in z)
when_of (Result.literal at (Value.bool false)) e = absurd (let z : ⊥ = omega (arith, e) in z)
when_of (Result.literal at (Value.number x)) e = absurd (let z : ⊥ = omega (arith, e) in z)
when_of (Result.literal at (Value.text t)) e = absurd (let z : ⊥ = omega (arith, e) in z)
when_of (Result.literal at (Value.list vs)) e = absurd (let z : ⊥ = omega (arith, e) in z)
when_of (Result.literal at (Value.rec ms)) e = absurd (let z : ⊥ = omega (arith, e) in z)
when_of (Result.pack at ps) e = absurd (let z : ⊥ = omega (arith, e) in z)

pub choose_of : (r : Result) → form_code r ≡ 11 → IsChoose r
unfolding form_code conversion_code literal_code
choose_of (Result.convert at to_int q) e = absurd (let z : ⊥ = omega (arith, e) in z)
choose_of (Result.convert at to_dec q) e = absurd (let z : ⊥ = omega (arith, e) in z)
choose_of (Result.convert at to_bool q) e = absurd (let z : ⊥ = omega (arith, e) in z)
choose_of (Result.convert at to_text q) e = absurd (let z : ⊥ = omega (arith, e) in z)
choose_of (Result.keep at q) e = absurd (let z : ⊥ = omega (arith, e) in z)
choose_of (Result.count at q) e = absurd (let z : ⊥ = omega (arith, e) in z)
choose_of (Result.each at q r) e = absurd (let z : ⊥ = omega (arith, e) in z)
choose_of (Result.when at k q r₁ r₂) e = absurd (let z : ⊥ = omega (arith, e) in z)
choose_of (Result.choose at r₁ r₂ r₃) e = is_choose
choose_of (Result.literal at Value.null) e = absurd (let z : ⊥ = omega (arith, e) in z)
choose_of (Result.literal at (Value.bool true)) e = absurd (let z : ⊥ = omega (arith, e) in z)
choose_of (Result.literal at (Value.bool false)) e = absurd (let z : ⊥ = omega (arith, e) in z)
choose_of (Result.literal at (Value.number x)) e = absurd (let z : ⊥ = omega (arith, e) in z)
choose_of (Result.literal at (Value.text t)) e = absurd (let z : ⊥ = omega (arith, e) in z)
choose_of (Result.literal at (Value.list vs)) e = absurd (let z : ⊥ = omega (arith, e) in z)
choose_of (Result.literal at (Value.rec ms)) e = absurd (let z : ⊥ = omega (arith, e) in z)
choose_of (Result.pack at ps) e = absurd (let z : ⊥ = omega (arith, e) in z)

pub pack_of : (r : Result) → form_code r ≡ 17 → IsPack r
unfolding form_code conversion_code literal_code
pack_of (Result.convert at to_int q) e = absurd (let z : ⊥ = omega (arith, e) in z)
pack_of (Result.convert at to_dec q) e = absurd (let z : ⊥ = omega (arith, e) in z)
pack_of (Result.convert at to_bool q) e = absurd (let z : ⊥ = omega (arith, e) in z)
pack_of (Result.convert at to_text q) e = absurd (let z : ⊥ = omega (arith, e) in z)
pack_of (Result.keep at q) e = absurd (let z : ⊥ = omega (arith, e) in z)
pack_of (Result.count at q) e = absurd (let z : ⊥ = omega (arith, e) in z)
pack_of (Result.each at q r) e = absurd (let z : ⊥ = omega (arith, e) in z)
pack_of (Result.when at k q r₁ r₂) e = absurd (let z : ⊥ = omega (arith, e) in z)
pack_of (Result.choose at r₁ r₂ r₃) e = absurd (let z : ⊥ = omega (arith, e) in z)
pack_of (Result.literal at Value.null) e = absurd (let z : ⊥ = omega (arith, e) in z)
pack_of (Result.literal at (Value.bool true)) e = absurd (let z : ⊥ = omega (arith, e) in z)
pack_of (Result.literal at (Value.bool false)) e = absurd (let z : ⊥ = omega (arith, e) in z)
pack_of (Result.literal at (Value.number x)) e = absurd (let z : ⊥ = omega (arith, e) in z)
pack_of (Result.literal at (Value.text t)) e = absurd (let z : ⊥ = omega (arith, e) in z)
pack_of (Result.literal at (Value.list vs)) e = absurd (let z : ⊥ = omega (arith, e) in z)
pack_of (Result.literal at (Value.rec ms)) e = absurd (let z : ⊥ = omega (arith, e) in z)
pack_of (Result.pack at ps) e = is_pack

pub count_of : (r : Result) → form_code r ≡ 8 → IsCount r
unfolding form_code conversion_code literal_code
count_of (Result.convert at to_int q) e = absurd (let z : ⊥ = omega (arith, e) in z)
count_of (Result.convert at to_dec q) e = absurd (let z : ⊥ = omega (arith, e) in z)
count_of (Result.convert at to_bool q) e = absurd (let z : ⊥ = omega (arith, e) in z)
count_of (Result.convert at to_text q) e = absurd (let z : ⊥ = omega (arith, e) in z)
count_of (Result.keep at q) e = absurd (let z : ⊥ = omega (arith, e) in z)
count_of (Result.count at q) e = is_count
count_of (Result.each at q r) e = absurd (let z : ⊥ = omega (arith, e) in z)
count_of (Result.when at k q r₁ r₂) e = absurd (let z : ⊥ = omega (arith, e) in z)
count_of (Result.choose at r₁ r₂ r₃) e = absurd (let z : ⊥ = omega (arith, e) in z)
count_of (Result.literal at Value.null) e = absurd (let z : ⊥ = omega (arith, e) in z)
count_of (Result.literal at (Value.bool true)) e = absurd (let z : ⊥ = omega (arith, e) in z)
count_of (Result.literal at (Value.bool false)) e = absurd (let z : ⊥ = omega (arith, e) in z)
count_of (Result.literal at (Value.number x)) e = absurd (let z : ⊥ = omega (arith, e) in z)
count_of (Result.literal at (Value.text t)) e = absurd (let z : ⊥ = omega (arith, e) in z)
count_of (Result.literal at (Value.list vs)) e = absurd (let z : ⊥ = omega (arith, e) in z)
count_of (Result.literal at (Value.rec ms)) e = absurd (let z : ⊥ = omega (arith, e) in z)
count_of (Result.pack at ps) e = absurd (let z : ⊥ = omega (arith, e) in z)

pub same_of : (r : Result) → 1 ≤ form_code r → form_code r < 8 → IsSame r
unfolding form_code conversion_code literal_code
same_of (Result.convert at to_int q) e h = is_convert
same_of (Result.convert at to_dec q) e h = is_convert
same_of (Result.convert at to_bool q) e h = is_convert
same_of (Result.convert at to_text q) e h = is_convert
same_of (Result.keep at q) e h = is_keep
same_of (Result.count at q) e h = absurd (let z : ⊥ = omega (arith, e, h) in z)
same_of (Result.each at q r) e h = absurd (let z : ⊥ = omega (arith, e, h) in z)
same_of (Result.when at k q r₁ r₂) e h = absurd (let z : ⊥ = omega (arith, e, h) in z)
same_of (Result.choose at r₁ r₂ r₃) e h = absurd (let z : ⊥ = omega (arith, e, h) in z)
same_of (Result.literal at Value.null) e h = absurd (let z : ⊥ = omega (arith, e, h) in z)
same_of (Result.literal at (Value.bool true)) e h = absurd (let z : ⊥ = omega (arith, e, h) in z)
same_of (Result.literal at (Value.bool false)) e h = absurd (let z : ⊥ = omega (arith, e, h) in z)
same_of (Result.literal at (Value.number x)) e h = absurd (let z : ⊥ = omega (arith, e, h) in z)
same_of (Result.literal at (Value.text t)) e h = absurd (let z : ⊥ = omega (arith, e, h) in z)
same_of (Result.literal at (Value.list vs)) e h = absurd (let z : ⊥ = omega (arith, e, h) in z)
same_of (Result.literal at (Value.rec ms)) e h = absurd (let z : ⊥ = omega (arith, e, h) in z)
same_of (Result.pack at ps) e h = absurd (let z : ⊥ = omega (arith, e, h) in z)

pub literal_of : (r : Result) → 11 < form_code r → (form_code r ≡ 17 → ⊥) → IsLiteral r
unfolding form_code conversion_code literal_code
literal_of (Result.convert at to_int q) e n = absurd (let z : ⊥ = omega (arith, e) in z)
literal_of (Result.convert at to_dec q) e n = absurd (let z : ⊥ = omega (arith, e) in z)
literal_of (Result.convert at to_bool q) e n = absurd (let z : ⊥ = omega (arith, e) in z)
literal_of (Result.convert at to_text q) e n = absurd (let z : ⊥ = omega (arith, e) in z)
literal_of (Result.keep at q) e n = absurd (let z : ⊥ = omega (arith, e) in z)
literal_of (Result.count at q) e n = absurd (let z : ⊥ = omega (arith, e) in z)
literal_of (Result.each at q r) e n = absurd (let z : ⊥ = omega (arith, e) in z)
literal_of (Result.when at k q r₁ r₂) e n = absurd (let z : ⊥ = omega (arith, e) in z)
literal_of (Result.choose at r₁ r₂ r₃) e n = absurd (let z : ⊥ = omega (arith, e) in z)
literal_of (Result.literal at Value.null) e n = is_literal
literal_of (Result.literal at (Value.bool true)) e n = is_literal
literal_of (Result.literal at (Value.bool false)) e n = is_literal
literal_of (Result.literal at (Value.number x)) e n = is_literal
literal_of (Result.literal at (Value.text t)) e n = is_literal
literal_of (Result.literal at (Value.list vs)) e n = is_literal
literal_of (Result.literal at (Value.rec ms)) e n = is_literal
literal_of (Result.pack at ps) e n = absurd (n refl)

pub data IsIt : Place → Type 0 where
  is_it : {at n : ℕ} → IsIt (Place.it at n)

pub it_of : (q : Place) → place_code q ≡ 1 → IsIt q
unfolding place_code
it_of (Place.it at n) e = is_it
it_of (Place.field at n q) e = absurd (let z : ⊥ = omega (arith, e) in z)
