-- The digits that `itoa` writes are those of the definition. Assumes nothing.
use Rattle.std.proofs.Common.{◌≡◌, ℕ, suc, ◌^◌, ◌<◌, ◌≤◌, [], arith, refl, sym, ◌∙◌, append-nil, length}
use Rattle.std.specs.Fmt.{decimal as decimal_text}
use Rattle.std.proofs.lemmas.Fmt.{PrependsLastDigit, decimal_from_prepends, length-decimal-le, length-decimal-le_succ}
use Rattle.definitions.specs.Plain.{decimal, decimal_within}
use Rattle.laws.specs.Tests.{lt-ltb, le-ltb}

within_prepends : PrependsLastDigit decimal_within
unfolding decimal_within
within_prepends =
    record {
      one = λ k n acc h. rw (lt-ltb n 10 h, decimal_within) refl;
      more = λ k n acc h. rw (le-ltb n 10 h, decimal_within) refl;
    }

pub decimal_same : (n : ℕ) → n < 2 ^ 64 → decimal_text n ≡ decimal n
unfolding decimal
decimal_same n h =
    let long : length (decimal_text n) ≤ suc n = omega (arith, length-decimal-le_succ n h) in
    sym (decimal_from_prepends decimal_within within_prepends (suc n) n [] h long ∙ append-nil (decimal_text n))

-- a 64-bit number has at most 20
pub decimal_short : (n : ℕ) → n < 2 ^ 64 → length (decimal n) ≤ 20
decimal_short n h = rw (sym (decimal_same n h)) (length-decimal-le 20 n (omega arith) (omega (arith, h)) h)
