-- What is read until a buffer is full or the input ends tells what is made of the whole input, where all inputs are alike that are
-- longer than some length, and so is the buffer. Assumes nothing.
use Rattle.std.proofs.Common.{◌≡◌, ℕ, ◌≤◌, ◌<◌, inl, inr, List, Option, Some, None, IfSome, [], ◌++◌, length, take}
use Rattle.std.proofs.Common.{arith, sym, ap, ◌∙◌, subst, append-nil, length-append, length-take-le}
use Rattle.std.proofs.Math.Nat.{eq-or-lt_of_le}
use Rattle.std.specs.Io.KnownBytes.{Consumes, IsAtEnd}

module _ {A : Type 0} (f : List ℕ → A) (most : ℕ) (alike : (a b : List ℕ) → most < length a → most < length b → f a ≡ f b)
    (buffer : List ℕ) (n : ℕ) (long : most < length buffer) (within : n ≤ length buffer) where
  taken : length (take n buffer) ≡ n
  taken = length-take-le n buffer within

  same : (input left : List ℕ) → input ≡ take n buffer ++ left → (n < length buffer → left ≡ []) → f input ≡ f (take n buffer)
  same input left read ended =
      elim (eq-or-lt_of_le within) [
        | inl full ↦
            alike input (take n buffer)
            (omega (arith, ap length read, length-append (take n buffer) left, taken, full, long))
            (omega (arith, taken, full, long))
        | inr short ↦ ap f (read ∙ ap (λ l. take n buffer ++ l) (ended short) ∙ append-nil (take n buffer))
      ]

  pub of_whole
      : (known left : Option (List ℕ)) (P : A → Type 0) → Consumes known left (take n buffer) → (n < length buffer → IsAtEnd left)
      → P (f (take n buffer)) → IfSome known (λ input. P (f input))
  of_whole None left P read ended p = tt
  of_whole (Some input) None P read ended p = absurd read
  of_whole (Some input) (Some left) P read ended p = subst P (sym (same input left read ended)) p
