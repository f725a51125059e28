-- A word as bytes, and the five words of an answer. Assumes nothing.
use Prim.Native.Nat.{ℕ, zero, suc, ◌+◌, ◌/◌, ◌%◌}
use native.Mathlib.Omega.{arith}
use mathlib.Core.Path.{◌≡◌, refl, sym, ap, ◌∙◌}
use mathlib.Core.Bool.{Bool, true, false}
use mathlib.Core.List.{◌++◌}
use mir.Val.{bool_byte}
use lib.ListN.{length, take, drop}
use Rattle.std.specs.Prelude.{◌^◌}
use Rattle.std.specs.Int.{w64, to_le_bytes, bytes_low_first, byte_at}
use Rattle.std.proofs.Math.Nat.{div-one, div-div-eq-div-mul, pow-suc}
use Rattle.definitions.specs.declared.Answer.{Answer}
use Rattle.definitions.specs.Bytes.{Bytes}
use Rattle.definitions.specs.Calls.{little_endian, as_word, answer_words}
use Rattle.text.specs.Writes.{Writes}
use Rattle.text.specs.WritesLaws.{writes_then}

-- the bytes of a word from the i-th on, as std has them
low_byte : (i n : ℕ) → n / 256 ^ i % 256 ≡ byte_at i n
low_byte zero n = ap (λ m. m % 256) (div-one n)
low_byte (suc i) n = refl

low_bytes : (i k n : ℕ) → little_endian k (n / 256 ^ i) ≡ bytes_low_first i k n
unfolding little_endian
low_bytes i zero n = refl
low_bytes i (suc k) n =
    let rest : n / 256 ^ i / 256 ≡ n / 256 ^ suc i =
    div-div-eq-div-mul n (256 ^ i) 256 ∙ ap (λ m. n / m) (sym (pow-suc 256 i)) in
    rw (low_byte i n, rest, low_bytes (suc i) k n) refl

pub word_bytes : (n : ℕ) → little_endian 8 n ≡ to_le_bytes w64 n
word_bytes n = ap (little_endian 8) (sym (div-one n)) ∙ low_bytes 0 8 n

-- ---- an answer's five words

length_word : (w : ℕ) → length (little_endian 8 w) ≡ 8
unfolding little_endian
length_word w = refl

-- a word put into a buffer, as bytes written
put_writes : {o b : Bytes} (at w : ℕ) → b ≡ take at o ++ little_endian 8 w ++ drop (at + 8) o → Writes o b at (little_endian 8 w) (at + 8)
put_writes at w e = record { bytes = e; end = ap (λ (n : ℕ). at + n) (sym (length_word w)) }

-- a flag as a word
pub flag : (b : Bool) → bool_byte b ≡ as_word b
unfolding as_word
flag true = refl
flag false = refl

pub five_words
    : (o : Bytes) {o₁ o₂ o₃ o₄ o₅ : Bytes} (a : Answer) {y : ℕ} → y ≡ as_word a.yes → o₁ ≡ take 0 o ++ little_endian 8 a.text ++ drop 8 o
    → o₂ ≡ take 8 o₁ ++ little_endian 8 a.place ++ drop 16 o₁
    → o₃ ≡ take 16 o₂ ++ little_endian 8 a.length ++ drop 24 o₂
    → o₄ ≡ take 24 o₃ ++ little_endian 8 a.steps ++ drop 32 o₃
    → o₅ ≡ take 32 o₄ ++ little_endian 8 y ++ drop 40 o₄
    → o₅ ≡ answer_words a ++ drop 40 o
unfolding answer_words
five_words o a {y} e h₁ h₂ h₃ h₄ h₅ =
    let w : Writes o _ 0 _ 40 =
    writes_then (omega arith)
    (writes_then (omega arith)
    (writes_then (omega arith) (writes_then (omega arith) (put_writes 0 a.text h₁) (put_writes 8 a.place h₂)) (put_writes 16 a.length h₃))
    (put_writes 24 a.steps h₄))
    (put_writes 32 y h₅) in
    w.bytes
    ∙ ap (λ (k : ℕ).
    little_endian 8 a.text ++ little_endian 8 a.place ++ little_endian 8 a.length ++ little_endian 8 a.steps
    ++ little_endian 8 k ++ drop 40 o) e
