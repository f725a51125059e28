-- The word that one byte put makes of a word x: with s bits behind the byte, the bytes of x above it, the byte b, and zeros. Assumes nothing.
use Prim.Native.Nat.{ℕ, suc, ◌+◌, ◌-◌, ◌*◌, ◌/◌, ◌%◌, ◌^◌, ◌<◌}
use mathlib.Core.Path.{◌≡◌, sym, ap, ◌∙◌, subst}
use mathlib.Core.List.{◌∷◌, ◌++◌}
use native.Mathlib.Decide.{dec_lt}
use native.Mathlib.Omega.{arith}
use lib.Arith.{digits_lt}
use lib.ListN.{length, get_or, take, replicate, length-append, length-replicate, get_or-replicate, get_or-append}
use lib.Pow.{pow-add, shl-shr, shl_exact, shr-shr, shr_lt, high, low}
use lib.Seq.{length-take-le, get_or-take, get_or-append-add, get_or_at, ext_get_or}
use Rattle.definitions.specs.Bytes.{Bytes}
use Rattle.pool.specs.Pool.{unpacked}
use Rattle.pool.specs.PoolLaws.{length_unpacked, get_or_unpacked}
use Rattle.pool.specs.LaneLaws.{moved}

-- what stands above the byte, then the byte
abbrev pub upper : ℕ → ℕ → ℕ → ℕ
upper x s b = x / 2 ^ s / 256 * 256 + b

abbrev pub put_word : ℕ → ℕ → ℕ → ℕ
put_word x s b = upper x s b * 2 ^ s

-- the bytes above are those of x
above : (x s u b : ℕ) → b < 256 → put_word x s b / 2 ^ (s + (8 + u)) ≡ x / 2 ^ (s + (8 + u))
above x s u b h =
    sym (shr-shr (put_word x s b) s (8 + u))
    ∙ ap (λ (y : ℕ). y / 2 ^ (8 + u)) (shl-shr (upper x s b) s)
    ∙ sym (shr-shr (upper x s b) 8 u)
    ∙ ap (λ (y : ℕ). y / 2 ^ u) (high (x / 2 ^ s / 256) 8 h)
    ∙ shr-shr (x / 2 ^ s) 8 u
    ∙ shr-shr x s (8 + u)

-- at its place the byte is b
here : (x s b : ℕ) → b < 256 → put_word x s b / 2 ^ s % 256 ≡ b
here x s b h = ap (λ (y : ℕ). y % 256) (shl-shr (upper x s b) s) ∙ low (x / 2 ^ s / 256) 8 h

-- the bytes behind are 0
behind : (x u t b : ℕ) → put_word x (u + 8 + t) b / 2 ^ t % 256 ≡ 0
behind x u t b = moved (upper x (u + 8 + t) b) u t

-- byte i of the new word, against byte j that is put: before it, at it, behind it
module _ (x j b : ℕ) (hj : j < 8) (hb : b < 256) where
  abbrev pub put : Bytes
  put = take j (unpacked x) ++ (b ∷ replicate (7 - j) 0)

  length_kept : length (take j (unpacked x)) ≡ j
  length_kept = length-take-le j (unpacked x) (omega (arith, length_unpacked x))

  byte_before : (i : ℕ) → i < j → put_word x (56 - 8 * j) b / 2 ^ (56 - 8 * i) % 256 ≡ get_or put i 0
  byte_before i h =
      ap (λ (y : ℕ). y % 256)
      (ap (λ (s : ℕ). put_word x (56 - 8 * j) b / 2 ^ s) e ∙ above x (56 - 8 * j) (8 * (j - i) - 8) b hb ∙ ap (λ (s : ℕ). x / 2 ^ s) (sym e))
      ∙ sym (get_or_unpacked x i (omega arith))
      ∙ sym (get_or-take j (unpacked x) i 0 h)
      ∙ sym (get_or-append (take j (unpacked x)) (b ∷ replicate (7 - j) 0) 0 i (omega (arith, length_kept)))
    where
      e : 56 - 8 * i ≡ 56 - 8 * j + (8 + (8 * (j - i) - 8))
      e = omega arith

  byte_at : (i : ℕ) → i ≡ j → put_word x (56 - 8 * j) b / 2 ^ (56 - 8 * i) % 256 ≡ get_or put i 0
  byte_at i e =
      ap (λ (k : ℕ). put_word x (56 - 8 * j) b / 2 ^ (56 - 8 * k) % 256) e
      ∙ here x (56 - 8 * j) b hb
      ∙ sym (get_or_at (take j (unpacked x)) b (replicate (7 - j) 0) 0 i (length_kept ∙ sym e))

  byte_behind : (i : ℕ) → i < 8 → j < i → put_word x (56 - 8 * j) b / 2 ^ (56 - 8 * i) % 256 ≡ get_or put i 0
  byte_behind i hi h =
      ap (λ (s : ℕ). put_word x s b / 2 ^ (56 - 8 * i) % 256) e
      ∙ behind x (8 * (i - j) - 8) (56 - 8 * i) b
      ∙ sym (get_or-replicate (7 - j) (i - suc j) 0 0 (omega arith))
      ∙ sym (get_or-append-add (take j (unpacked x)) (b ∷ replicate (7 - j) 0) (suc (i - suc j)) 0)
      ∙ ap (λ (k : ℕ). get_or put k 0) (let f : length (take j (unpacked x)) + suc (i - suc j) ≡ i = omega (arith, length_kept) in f)
    where
      e : 56 - 8 * j ≡ 8 * (i - j) - 8 + 8 + (56 - 8 * i)
      e = omega arith

  byte : (i : ℕ) → i < 8 → put_word x (56 - 8 * j) b / 2 ^ (56 - 8 * i) % 256 ≡ get_or put i 0
  byte i hi = go (dec_lt i j) (dec_lt j i)
    where
      go : Dec (i < j) → Dec (j < i) → put_word x (56 - 8 * j) b / 2 ^ (56 - 8 * i) % 256 ≡ get_or put i 0
      go (yes h) d = byte_before i h
      go (no h) (yes l) = byte_behind i hi l
      go (no h) (no l) = byte_at i (omega arith)

  -- the bytes of the new word
  pub unpacked_put : unpacked (put_word x (56 - 8 * j) b) ≡ put
  unpacked_put =
      ext_get_or 0 (unpacked (put_word x (56 - 8 * j) b)) put
      (length_unpacked (put_word x (56 - 8 * j) b) ∙ sym (length-append (take j (unpacked x)) (b ∷ replicate (7 - j) 0) ∙ sizes))
      (λ i h. let hi : i < 8 = omega (arith, length_unpacked (put_word x (56 - 8 * j) b)) in get_or_unpacked (put_word x (56 - 8 * j) b) i hi ∙ byte i hi)
    where
      sizes : length (take j (unpacked x)) + suc (length {A = ℕ} (replicate (7 - j) 0)) ≡ 8
      sizes = omega (arith, length_kept, length-replicate {A = ℕ} (7 - j) 0)

  -- the new word is a word, so that no bit is shifted out
  pub put_word_fits : x < 2 ^ 64 → upper x (56 - 8 * j) b * 2 ^ (56 - 8 * j) % 2 ^ 64 ≡ put_word x (56 - 8 * j) b
  put_word_fits h =
      shl_exact (8 * j + 8) (56 - 8 * j) 64
      (subst (λ (y : ℕ). upper x (56 - 8 * j) b < y) (sym (pow-add 2 (8 * j) 8)) (digits_lt small hb))
      (omega arith)
    where
      small : x / 2 ^ (56 - 8 * j) / 256 < 2 ^ (8 * j)
      small =
          subst (λ (y : ℕ). y < 2 ^ (8 * j)) (sym (shr-shr x (56 - 8 * j) 8))
          (shr_lt (8 * j) (56 - 8 * j + 8) (subst (λ (n : ℕ). x < 2 ^ n) (let e : 64 ≡ 8 * j + (56 - 8 * j + 8) = omega arith in e) h))
