-- The bits of tests by their codes. Assumes nothing.
use Prim.Native.Nat.{ℕ, ◌-◌, ◌*◌, ◌^◌, ◌%◌, ◌≤◌, ◌<◌}
use mathlib.Core.Path.{◌≡◌, refl, sym, ap, ◌∙◌}
use mathlib.Core.Bool.{Bool, true, false}
use native.Mathlib.Omega.{arith}
use lib.Bits.{bit_and, bit_or}
use lib.Pow.{pow_mono}
use Rattle.definitions.specs.Shape.{Kind, among, rank, Shape, has}
use Rattle.definitions.specs.Reader.{Test}
use Rattle.definitions.specs.Checking.{gain_null, test_kinds, taken_out}
use Rattle.shapes.specs.Shapes.{bit, kind_bit, kind_bits, has_bit}
use Rattle.shapes.specs.ShapesLaws.{has_kind, bits_with_null}
use Rattle.forms.specs.Forms.{test_code}
use Rattle.forms.specs.FormsLaws.{test_int}
use Rattle.checking.specs.KindSets.{flags, test_flags, other_flags, cut_bits, out_bits, int_of_decimals, TellsTest, TellsCut, TellsOut, TellsGain}

-- that of `num`
pub num_flags : TellsTest 3 12
unfolding test_code flags among rank test_kinds bit
num_flags Test.null e = omega arith
num_flags Test.bool e = omega arith
num_flags Test.int e = omega arith
num_flags Test.num e = refl
num_flags Test.text e = omega arith
num_flags Test.list e = omega arith
num_flags Test.rec e = omega arith

-- that of every other test
pub kind_flags : (test : ℕ) → (test ≡ 3 → ⊥) → TellsTest test (1 * 2 ^ test % 18446744073709551616)
unfolding test_code flags among rank test_kinds bit
kind_flags test ne Test.null e = ap (λ (x : ℕ). 1 * 2 ^ x % 18446744073709551616) e
kind_flags test ne Test.bool e = ap (λ (x : ℕ). 1 * 2 ^ x % 18446744073709551616) e
kind_flags test ne Test.int e = ap (λ (x : ℕ). 1 * 2 ^ x % 18446744073709551616) e
kind_flags test ne Test.num e = absurd (ne e)
kind_flags test ne Test.text e = ap (λ (x : ℕ). 1 * 2 ^ x % 18446744073709551616) e
kind_flags test ne Test.list e = ap (λ (x : ℕ). 1 * 2 ^ x % 18446744073709551616) e
kind_flags test ne Test.rec e = ap (λ (x : ℕ). 1 * 2 ^ x % 18446744073709551616) e

pub power_small : (test : ℕ) → test < 7 → 1 * 2 ^ test % 18446744073709551616 < 128
power_small test h =
    let g : test ≤ 6 = omega arith in
    let l : 2 ^ test ≤ 2 ^ 6 = pow_mono {i = test} {j = 6} g in
    let m : 1 * 2 ^ test % 18446744073709551616 ≤ 1 * 2 ^ test = omega arith in
    omega arith

pub no_flags : (test : ℕ) → 7 ≤ test → TellsTest test 0
unfolding test_code
no_flags test h Test.null e = omega arith
no_flags test h Test.bool e = omega arith
no_flags test h Test.int e = omega arith
no_flags test h Test.num e = omega arith
no_flags test h Test.text e = omega arith
no_flags test h Test.list e = omega arith
no_flags test h Test.rec e = omega arith

others : (k : Test) → other_flags k ≡ 127 - test_flags k
unfolding flags among rank test_kinds bit
others Test.null = refl
others Test.bool = refl
others Test.int = refl
others Test.num = refl
others Test.text = refl
others Test.list = refl
others Test.rec = refl

pub cut_told : (kinds test x : ℕ) → TellsTest test x → TellsCut kinds test (bit_and kinds x)
cut_told kinds test x h k s e f =
    ap (λ (y : ℕ). bit_and y x) f ∙ ap (λ (y : ℕ). bit_and (kind_bits s) y) (h k e) ∙ sym (cut_bits k s)

code_int : (k : Test) → k ≡ Test.int → test_code k ≡ 2
unfolding test_code
code_int k e = ap test_code e

-- what is left where the test is not `int`, or there are no decimals
pub out_told : (kinds test x : ℕ) → (test ≡ 2 → has_bit kinds 8 ≡ false) → TellsTest test x → TellsOut kinds test (bit_and kinds (127 - x))
unfolding kind_bit
out_told kinds test x none h k s e f =
    ap (λ (y : ℕ). bit_and y (127 - x)) f
    ∙ ap (λ (y : ℕ). bit_and (kind_bits s) (127 - y)) (h k e)
    ∙ sym
    (out_bits k s (λ i. sym (has_kind Kind.dec s) ∙ ap (λ (y : ℕ). has_bit y 8) (sym f) ∙ none (e ∙ code_int k i))
    ∙ ap (λ (y : ℕ). bit_and (kind_bits s) y) (others k))

-- "taking out int leaves int and dec where dec is there"
pub int_stays : (kinds test : ℕ) → test ≡ 2 → has_bit kinds 8 ≡ true → TellsOut kinds test kinds
unfolding kind_bit
int_stays kinds test i d k s e f =
    f
    ∙ ap
    kind_bits
    (sym
    (ap (λ (y : Test). taken_out y s) (test_int k (sym e ∙ i))
    ∙ int_of_decimals s (sym (has_kind Kind.dec s) ∙ ap (λ (y : ℕ). has_bit y 8) (sym f) ∙ d)))

-- "the member's shape gains null where the place has null"
null_there : (place : ℕ) (s : Shape) {b : Bool} → place ≡ kind_bits s → has_bit place 1 ≡ b → b ≡ has Kind.null s
unfolding kind_bit
null_there place s f h = sym h ∙ ap (λ (y : ℕ). has_bit y 1) f ∙ has_kind Kind.null s

pub null_gained : (kinds place : ℕ) {given : ℕ} → given ≡ bit_or kinds 1 → has_bit place 1 ≡ true → TellsGain kinds place given
unfolding gain_null
null_gained kinds place made h s t e f =
    made ∙ ap (λ (y : ℕ). bit_or y 1) e ∙ bits_with_null t ∙ ap (λ (b : Bool). kind_bits (gain_null b t)) (null_there place s f h)

pub none_gained : (kinds place : ℕ) → has_bit place 1 ≡ false → TellsGain kinds place kinds
unfolding gain_null
none_gained kinds place h s t e f = e ∙ ap (λ (b : Bool). kind_bits (gain_null b t)) (null_there place s f h)
