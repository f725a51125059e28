-- What tests on kinds say of the value at a row. Assumes nothing.
use Rattle.std.specs.Prelude.{◌≤◌, ◌≡◌, refl, Bool, true, false, eqb}
use Rattle.std.proofs.Common.{sym, ap, ◌∙◌, arith}
use Rattle.definitions.specs.Number.{Number, is_int}
use Rattle.definitions.specs.Value.{Value}
use Rattle.definitions.specs.Shape.{Kind, among, rank}
use Rattle.definitions.specs.Admits.{kind_of}
use Rattle.definitions.specs.Reader.{to_int, to_dec, to_bool, to_text, Test, Result}
use Rattle.definitions.specs.Checking.{test_kinds, convert_kinds, list_kinds}
use Rattle.nodes.specs.Nodes.{kind_code}
use Rattle.forms.specs.Forms.{conversion_code, literal_code, form_code, test_code}
use Rattle.forms.specs.FormsLaws.{test_int}
use Rattle.running.specs.Kinds.{wanted}

pub test_num : (k : Test) → test_code k ≡ 3 → k ≡ Test.num
unfolding test_code
test_num Test.null e = absurd (let z : ⊥ = omega (arith, e) in z)
test_num Test.bool e = absurd (let z : ⊥ = omega (arith, e) in z)
test_num Test.int e = absurd (let z : ⊥ = omega (arith, e) in z)
test_num Test.num e = refl
test_num Test.text e = absurd (let z : ⊥ = omega (arith, e) in z)
test_num Test.list e = absurd (let z : ⊥ = omega (arith, e) in z)
test_num Test.rec e = absurd (let z : ⊥ = omega (arith, e) in z)

-- a number is an int or a decimal
number_kind : (x : Number) (k : Test) → test_code k ≡ 2 → is_int x ≡ among (kind_of (Value.number x)) (test_kinds k)
unfolding test_code test_kinds kind_of among rank
number_kind x k e = go (is_int x)
  where
    go : (b : Bool) → b ≡ among (elim b [ true ↦ Kind.int | false ↦ Kind.dec ]) (test_kinds k)
    go true = ap (λ (j : Test). among Kind.int (test_kinds j)) (sym (test_int k e))
    go false = ap (λ (j : Test). among Kind.dec (test_kinds j)) (sym (test_int k e))

number_other : (x : Number) (k : Test) → (test_code k ≡ 2 → ⊥) → eqb (test_code k) 3 ≡ among (kind_of (Value.number x)) (test_kinds k)
unfolding test_code test_kinds kind_of among rank
number_other x k n = go (is_int x) k n
  where
    go : (b : Bool) (j : Test) → (test_code j ≡ 2 → ⊥) → eqb (test_code j) 3 ≡ among (elim b [ true ↦ Kind.int | false ↦ Kind.dec ]) (test_kinds j)
    go true Test.null n = refl
    go true Test.bool n = refl
    go true Test.int n = absurd (n refl)
    go true Test.num n = refl
    go true Test.text n = refl
    go true Test.list n = refl
    go true Test.rec n = refl
    go false Test.null n = refl
    go false Test.bool n = refl
    go false Test.int n = absurd (n refl)
    go false Test.num n = refl
    go false Test.text n = refl
    go false Test.list n = refl
    go false Test.rec n = refl

pub says_number
    : (v : Value) (k : Test) → kind_code v ≡ 3 → (test_code k ≡ 2 → ⊥) → eqb (test_code k) 3 ≡ among (kind_of v) (test_kinds k)
unfolding kind_code
says_number Value.null k e n = absurd (let z : ⊥ = omega (arith, e) in z)
says_number (Value.bool true) k e n = absurd (let z : ⊥ = omega (arith, e) in z)
says_number (Value.bool false) k e n = absurd (let z : ⊥ = omega (arith, e) in z)
says_number (Value.number x) k e n = number_other x k n
says_number (Value.text t) k e n = absurd (let z : ⊥ = omega (arith, e) in z)
says_number (Value.list vs) k e n = absurd (let z : ⊥ = omega (arith, e) in z)
says_number (Value.rec ms) k e n = absurd (let z : ⊥ = omega (arith, e) in z)

-- whether a number is an int
pub says_int
    : (v : Value) (k : Test) → kind_code v ≡ 3 → test_code k ≡ 2 → {r : Bool}
    → ((x : Number) → v ≡ Value.number x → r ≡ is_int x) → r ≡ among (kind_of v) (test_kinds k)
unfolding kind_code
says_int Value.null k e f g = absurd (let z : ⊥ = omega (arith, e) in z)
says_int (Value.bool true) k e f g = absurd (let z : ⊥ = omega (arith, e) in z)
says_int (Value.bool false) k e f g = absurd (let z : ⊥ = omega (arith, e) in z)
says_int (Value.number x) k e f g = g x refl ∙ number_kind x k f
says_int (Value.text t) k e f g = absurd (let z : ⊥ = omega (arith, e) in z)
says_int (Value.list vs) k e f g = absurd (let z : ⊥ = omega (arith, e) in z)
says_int (Value.rec ms) k e f g = absurd (let z : ⊥ = omega (arith, e) in z)

pub says_true : (v : Value) (k : Test) → kind_code v ≡ 2 → eqb (test_code k) 1 ≡ among (kind_of v) (test_kinds k)
unfolding kind_code test_code test_kinds kind_of among rank
says_true Value.null k e = absurd (let z : ⊥ = omega (arith, e) in z)
says_true (Value.bool true) Test.null e = refl
says_true (Value.bool true) Test.bool e = refl
says_true (Value.bool true) Test.int e = refl
says_true (Value.bool true) Test.num e = refl
says_true (Value.bool true) Test.text e = refl
says_true (Value.bool true) Test.list e = refl
says_true (Value.bool true) Test.rec e = refl
says_true (Value.bool false) k e = absurd (let z : ⊥ = omega (arith, e) in z)
says_true (Value.number x) k e = absurd (let z : ⊥ = omega (arith, e) in z)
says_true (Value.text t) k e = absurd (let z : ⊥ = omega (arith, e) in z)
says_true (Value.list vs) k e = absurd (let z : ⊥ = omega (arith, e) in z)
says_true (Value.rec ms) k e = absurd (let z : ⊥ = omega (arith, e) in z)

-- any other value's code is that of its test
pub says_not
    : (v : Value) (k : Test) → (kind_code v ≡ 3 → ⊥) → (kind_code v ≡ 2 → ⊥) → eqb (kind_code v) (test_code k) ≡ among (kind_of v) (test_kinds k)
unfolding kind_code test_code test_kinds kind_of among rank
says_not Value.null Test.null e h = refl
says_not Value.null Test.bool e h = refl
says_not Value.null Test.int e h = refl
says_not Value.null Test.num e h = refl
says_not Value.null Test.text e h = refl
says_not Value.null Test.list e h = refl
says_not Value.null Test.rec e h = refl
says_not (Value.bool true) k e h = absurd (h refl)
says_not (Value.bool false) Test.null e h = refl
says_not (Value.bool false) Test.bool e h = refl
says_not (Value.bool false) Test.int e h = refl
says_not (Value.bool false) Test.num e h = refl
says_not (Value.bool false) Test.text e h = refl
says_not (Value.bool false) Test.list e h = refl
says_not (Value.bool false) Test.rec e h = refl
says_not (Value.number x) k e h = absurd (e refl)
says_not (Value.text t) Test.null e h = refl
says_not (Value.text t) Test.bool e h = refl
says_not (Value.text t) Test.int e h = refl
says_not (Value.text t) Test.num e h = refl
says_not (Value.text t) Test.text e h = refl
says_not (Value.text t) Test.list e h = refl
says_not (Value.text t) Test.rec e h = refl
says_not (Value.list vs) Test.null e h = refl
says_not (Value.list vs) Test.bool e h = refl
says_not (Value.list vs) Test.int e h = refl
says_not (Value.list vs) Test.num e h = refl
says_not (Value.list vs) Test.text e h = refl
says_not (Value.list vs) Test.list e h = refl
says_not (Value.list vs) Test.rec e h = refl
says_not (Value.rec ms) Test.null e h = refl
says_not (Value.rec ms) Test.bool e h = refl
says_not (Value.rec ms) Test.int e h = refl
says_not (Value.rec ms) Test.num e h = refl
says_not (Value.rec ms) Test.text e h = refl
says_not (Value.rec ms) Test.list e h = refl
says_not (Value.rec ms) Test.rec e h = refl

pub says_no_num : (v : Value) (k : Test) → (kind_code v ≡ 3 → ⊥) → test_code k ≡ 3 → false ≡ among (kind_of v) (test_kinds k)
unfolding kind_code test_kinds kind_of among rank
says_no_num v k e f = go v e ∙ ap (λ (j : Test). among (kind_of v) (test_kinds j)) (sym (test_num k f))
  where
    go : (u : Value) → (kind_code u ≡ 3 → ⊥) → false ≡ among (kind_of u) (test_kinds Test.num)
    go Value.null n = refl
    go (Value.bool b) n = refl
    go (Value.number x) n = absurd (n refl)
    go (Value.text t) n = refl
    go (Value.list vs) n = refl
    go (Value.rec ms) n = refl

pub says_no_int : (v : Value) (k : Test) → (kind_code v ≡ 3 → ⊥) → test_code k ≡ 2 → false ≡ among (kind_of v) (test_kinds k)
unfolding kind_code test_kinds kind_of among rank
says_no_int v k e f = go v e ∙ ap (λ (j : Test). among (kind_of v) (test_kinds j)) (sym (test_int k f))
  where
    go : (u : Value) → (kind_code u ≡ 3 → ⊥) → false ≡ among (kind_of u) (test_kinds Test.int)
    go Value.null n = refl
    go (Value.bool b) n = refl
    go (Value.number x) n = absurd (n refl)
    go (Value.text t) n = refl
    go (Value.list vs) n = refl
    go (Value.rec ms) n = refl

-- ---- what a form wants, by its code

pub wants_int : (r : Result) (v : Value) → form_code r ≡ 3 → among (kind_of v) (test_kinds Test.int) ≡ wanted r v
unfolding form_code conversion_code literal_code wanted test_kinds convert_kinds
wants_int (Result.convert at to_int q) v e = refl
wants_int (Result.convert at to_dec q) v e = absurd (let z : ⊥ = omega (arith, e) in z)
wants_int (Result.convert at to_bool q) v e = absurd (let z : ⊥ = omega (arith, e) in z)
wants_int (Result.convert at to_text q) v e = absurd (let z : ⊥ = omega (arith, e) in z)
wants_int (Result.keep at q) v e = absurd (let z : ⊥ = omega (arith, e) in z)
wants_int (Result.count at q) v e = absurd (let z : ⊥ = omega (arith, e) in z)
wants_int (Result.each at q r) v e = absurd (let z : ⊥ = omega (arith, e) in z)
wants_int (Result.when at k q r₁ r₂) v e = absurd (let z : ⊥ = omega (arith, e) in z)
wants_int (Result.choose at r₁ r₂ r₃) v e = absurd (let z : ⊥ = omega (arith, e) in z)
wants_int (Result.literal at Value.null) v e = absurd (let z : ⊥ = omega (arith, e) in z)
wants_int (Result.literal at (Value.bool true)) v e = absurd (let z : ⊥ = omega (arith, e) in z)
wants_int (Result.literal at (Value.bool false)) v e = absurd (let z : ⊥ = omega (arith, e) in z)
wants_int (Result.literal at (Value.number x)) v e = absurd (let z : ⊥ = omega (arith, e) in z)
wants_int (Result.literal at (Value.text t)) v e = absurd (let z : ⊥ = omega (arith, e) in z)
wants_int (Result.literal at (Value.list vs)) v e = absurd (let z : ⊥ = omega (arith, e) in z)
wants_int (Result.literal at (Value.rec ms)) v e = absurd (let z : ⊥ = omega (arith, e) in z)
wants_int (Result.pack at ps) v e = absurd (let z : ⊥ = omega (arith, e) in z)

pub wants_dec : (r : Result) (v : Value) → form_code r ≡ 4 → among (kind_of v) (test_kinds Test.num) ≡ wanted r v
unfolding form_code conversion_code literal_code wanted test_kinds convert_kinds
wants_dec (Result.convert at to_int q) v e = absurd (let z : ⊥ = omega (arith, e) in z)
wants_dec (Result.convert at to_dec q) v e = refl
wants_dec (Result.convert at to_bool q) v e = absurd (let z : ⊥ = omega (arith, e) in z)
wants_dec (Result.convert at to_text q) v e = absurd (let z : ⊥ = omega (arith, e) in z)
wants_dec (Result.keep at q) v e = absurd (let z : ⊥ = omega (arith, e) in z)
wants_dec (Result.count at q) v e = absurd (let z : ⊥ = omega (arith, e) in z)
wants_dec (Result.each at q r) v e = absurd (let z : ⊥ = omega (arith, e) in z)
wants_dec (Result.when at k q r₁ r₂) v e = absurd (let z : ⊥ = omega (arith, e) in z)
wants_dec (Result.choose at r₁ r₂ r₃) v e = absurd (let z : ⊥ = omega (arith, e) in z)
wants_dec (Result.literal at Value.null) v e = absurd (let z : ⊥ = omega (arith, e) in z)
wants_dec (Result.literal at (Value.bool true)) v e = absurd (let z : ⊥ = omega (arith, e) in z)
wants_dec (Result.literal at (Value.bool false)) v e = absurd (let z : ⊥ = omega (arith, e) in z)
wants_dec (Result.literal at (Value.number x)) v e = absurd (let z : ⊥ = omega (arith, e) in z)
wants_dec (Result.literal at (Value.text t)) v e = absurd (let z : ⊥ = omega (arith, e) in z)
wants_dec (Result.literal at (Value.list vs)) v e = absurd (let z : ⊥ = omega (arith, e) in z)
wants_dec (Result.literal at (Value.rec ms)) v e = absurd (let z : ⊥ = omega (arith, e) in z)
wants_dec (Result.pack at ps) v e = absurd (let z : ⊥ = omega (arith, e) in z)

pub wants_bool : (r : Result) (v : Value) → form_code r ≡ 5 → among (kind_of v) (test_kinds Test.bool) ≡ wanted r v
unfolding form_code conversion_code literal_code wanted test_kinds convert_kinds
wants_bool (Result.convert at to_int q) v e = absurd (let z : ⊥ = omega (arith, e) in z)
wants_bool (Result.convert at to_dec q) v e = absurd (let z : ⊥ = omega (arith, e) in z)
wants_bool (Result.convert at to_bool q) v e = refl
wants_bool (Result.convert at to_text q) v e = absurd (let z : ⊥ = omega (arith, e) in z)
wants_bool (Result.keep at q) v e = absurd (let z : ⊥ = omega (arith, e) in z)
wants_bool (Result.count at q) v e = absurd (let z : ⊥ = omega (arith, e) in z)
wants_bool (Result.each at q r) v e = absurd (let z : ⊥ = omega (arith, e) in z)
wants_bool (Result.when at k q r₁ r₂) v e = absurd (let z : ⊥ = omega (arith, e) in z)
wants_bool (Result.choose at r₁ r₂ r₃) v e = absurd (let z : ⊥ = omega (arith, e) in z)
wants_bool (Result.literal at Value.null) v e = absurd (let z : ⊥ = omega (arith, e) in z)
wants_bool (Result.literal at (Value.bool true)) v e = absurd (let z : ⊥ = omega (arith, e) in z)
wants_bool (Result.literal at (Value.bool false)) v e = absurd (let z : ⊥ = omega (arith, e) in z)
wants_bool (Result.literal at (Value.number x)) v e = absurd (let z : ⊥ = omega (arith, e) in z)
wants_bool (Result.literal at (Value.text t)) v e = absurd (let z : ⊥ = omega (arith, e) in z)
wants_bool (Result.literal at (Value.list vs)) v e = absurd (let z : ⊥ = omega (arith, e) in z)
wants_bool (Result.literal at (Value.rec ms)) v e = absurd (let z : ⊥ = omega (arith, e) in z)
wants_bool (Result.pack at ps) v e = absurd (let z : ⊥ = omega (arith, e) in z)

pub wants_text : (r : Result) (v : Value) → form_code r ≡ 6 → among (kind_of v) (test_kinds Test.text) ≡ wanted r v
unfolding form_code conversion_code literal_code wanted test_kinds convert_kinds
wants_text (Result.convert at to_int q) v e = absurd (let z : ⊥ = omega (arith, e) in z)
wants_text (Result.convert at to_dec q) v e = absurd (let z : ⊥ = omega (arith, e) in z)
wants_text (Result.convert at to_bool q) v e = absurd (let z : ⊥ = omega (arith, e) in z)
wants_text (Result.convert at to_text q) v e = refl
wants_text (Result.keep at q) v e = absurd (let z : ⊥ = omega (arith, e) in z)
wants_text (Result.count at q) v e = absurd (let z : ⊥ = omega (arith, e) in z)
wants_text (Result.each at q r) v e = absurd (let z : ⊥ = omega (arith, e) in z)
wants_text (Result.when at k q r₁ r₂) v e = absurd (let z : ⊥ = omega (arith, e) in z)
wants_text (Result.choose at r₁ r₂ r₃) v e = absurd (let z : ⊥ = omega (arith, e) in z)
wants_text (Result.literal at Value.null) v e = absurd (let z : ⊥ = omega (arith, e) in z)
wants_text (Result.literal at (Value.bool true)) v e = absurd (let z : ⊥ = omega (arith, e) in z)
wants_text (Result.literal at (Value.bool false)) v e = absurd (let z : ⊥ = omega (arith, e) in z)
wants_text (Result.literal at (Value.number x)) v e = absurd (let z : ⊥ = omega (arith, e) in z)
wants_text (Result.literal at (Value.text t)) v e = absurd (let z : ⊥ = omega (arith, e) in z)
wants_text (Result.literal at (Value.list vs)) v e = absurd (let z : ⊥ = omega (arith, e) in z)
wants_text (Result.literal at (Value.rec ms)) v e = absurd (let z : ⊥ = omega (arith, e) in z)
wants_text (Result.pack at ps) v e = absurd (let z : ⊥ = omega (arith, e) in z)

pub wants_list : (r : Result) (v : Value) → 8 ≤ form_code r → form_code r ≤ 9 → among (kind_of v) list_kinds ≡ wanted r v
unfolding form_code conversion_code literal_code wanted
wants_list (Result.convert at to_int q) v e h = absurd (let z : ⊥ = omega (arith, e, h) in z)
wants_list (Result.convert at to_dec q) v e h = absurd (let z : ⊥ = omega (arith, e, h) in z)
wants_list (Result.convert at to_bool q) v e h = absurd (let z : ⊥ = omega (arith, e, h) in z)
wants_list (Result.convert at to_text q) v e h = absurd (let z : ⊥ = omega (arith, e, h) in z)
wants_list (Result.keep at q) v e h = absurd (let z : ⊥ = omega (arith, e, h) in z)
wants_list (Result.count at q) v e h = refl
wants_list (Result.each at q r) v e h = refl
wants_list (Result.when at k q r₁ r₂) v e h = absurd (let z : ⊥ = omega (arith, e, h) in z)
wants_list (Result.choose at r₁ r₂ r₃) v e h = absurd (let z : ⊥ = omega (arith, e, h) in z)
wants_list (Result.literal at Value.null) v e h = absurd (let z : ⊥ = omega (arith, e, h) in z)
wants_list (Result.literal at (Value.bool true)) v e h = absurd (let z : ⊥ = omega (arith, e, h) in z)
wants_list (Result.literal at (Value.bool false)) v e h = absurd (let z : ⊥ = omega (arith, e, h) in z)
wants_list (Result.literal at (Value.number x)) v e h = absurd (let z : ⊥ = omega (arith, e, h) in z)
wants_list (Result.literal at (Value.text t)) v e h = absurd (let z : ⊥ = omega (arith, e, h) in z)
wants_list (Result.literal at (Value.list vs)) v e h = absurd (let z : ⊥ = omega (arith, e, h) in z)
wants_list (Result.literal at (Value.rec ms)) v e h = absurd (let z : ⊥ = omega (arith, e, h) in z)
wants_list (Result.pack at ps) v e h = absurd (let z : ⊥ = omega (arith, e, h) in z)

pub wants_any
    : (r : Result) (v : Value) → (form_code r ≡ 3 → ⊥) → (form_code r ≡ 4 → ⊥) → (form_code r ≡ 5 → ⊥) → (form_code r ≡ 6 → ⊥)
    → (form_code r ≡ 8 → ⊥) → (form_code r ≡ 9 → ⊥) → true ≡ wanted r v
unfolding form_code conversion_code literal_code wanted
wants_any (Result.convert at to_int q) v a b d e f g = absurd (a refl)
wants_any (Result.convert at to_dec q) v a b d e f g = absurd (b refl)
wants_any (Result.convert at to_bool q) v a b d e f g = absurd (d refl)
wants_any (Result.convert at to_text q) v a b d e f g = absurd (e refl)
wants_any (Result.keep at q) v a b d e f g = refl
wants_any (Result.count at q) v a b d e f g = absurd (f refl)
wants_any (Result.each at q r) v a b d e f g = absurd (g refl)
wants_any (Result.when at k q r₁ r₂) v a b d e f g = refl
wants_any (Result.choose at r₁ r₂ r₃) v a b d e f g = refl
wants_any (Result.literal at Value.null) v a b d e f g = refl
wants_any (Result.literal at (Value.bool true)) v a b d e f g = refl
wants_any (Result.literal at (Value.bool false)) v a b d e f g = refl
wants_any (Result.literal at (Value.number x)) v a b d e f g = refl
wants_any (Result.literal at (Value.text t)) v a b d e f g = refl
wants_any (Result.literal at (Value.list vs)) v a b d e f g = refl
wants_any (Result.literal at (Value.rec ms)) v a b d e f g = refl
wants_any (Result.pack at ps) v a b d e f g = refl

pub says_list : (v : Value) → (kind_code v ≡ 0 → ⊥) → eqb (kind_code v) 5 ≡ among (kind_of v) list_kinds
unfolding kind_code kind_of among rank list_kinds
says_list Value.null n = absurd (n refl)
says_list (Value.bool true) n = refl
says_list (Value.bool false) n = refl
says_list (Value.number x) n = go (is_int x)
  where
    go : (b : Bool) → false ≡ among (elim b [ true ↦ Kind.int | false ↦ Kind.dec ]) list_kinds
    go true = refl
    go false = refl
says_list (Value.text t) n = refl
says_list (Value.list vs) n = refl
says_list (Value.rec ms) n = refl

pub says_null : (v : Value) → kind_code v ≡ 0 → true ≡ among (kind_of v) list_kinds
unfolding kind_code kind_of among rank list_kinds
says_null Value.null e = refl
says_null (Value.bool true) e = absurd (let z : ⊥ = omega (arith, e) in z)
says_null (Value.bool false) e = absurd (let z : ⊥ = omega (arith, e) in z)
says_null (Value.number x) e = absurd (let z : ⊥ = omega (arith, e) in z)
says_null (Value.text t) e = absurd (let z : ⊥ = omega (arith, e) in z)
says_null (Value.list vs) e = absurd (let z : ⊥ = omega (arith, e) in z)
says_null (Value.rec ms) e = absurd (let z : ⊥ = omega (arith, e) in z)
