-- Eight bytes of a text, told by their number. Assumes nothing.
use Prim.Native.Nat.{ℕ, suc, ◌+◌, ◌*◌, ◌%◌, ◌^◌, ◌≤◌, ◌<◌}
use mathlib.Core.Path.{◌≡◌, refl, sym, ap, ap₂, ◌∙◌, subst}
use mathlib.Core.Bool.{Bool}
use mathlib.Core.List.{[], ◌∷◌, ◌++◌}
use native.Mathlib.Omega.{arith}
use lib.Arith.{digits_div, digits_mod, mod-mul}
use lib.ListN.{length, drop, get_or}
use lib.Pow.{pow-add, pow_pos}
use Rattle.definitions.specs.Bytes.{Bytes}
use Rattle.definitions.specs.Tokens.{word}
use Rattle.laws.specs.TokenGrammar.{WordByte}
use Rattle.tokens.specs.TokenRead.{BorderAnswer, Found}
use Rattle.tokens.specs.Standing.{StandsAt, low_value, EightTold, WordStands}
use Rattle.tokens.specs.StandingLaws.{stands_then, stands_front, stands_byte, word_stands}
use Rattle.tokens.proofs.Words.{Digits, no_digits, digit, fits_digits}

-- ---- the lowest digits

-- bytes whose number is that of the lowest digits are the first
low_front
    : {s w : Bytes} → Digits s → Digits w → length w ≤ length s → low_value s % 2 ^ (8 * length w) ≡ low_value w
    → s ≡ w ++ drop (length w) s
unfolding low_value
low_front d no_digits h e = refl
low_front no_digits (digit i f) h e = absurd (let z : ⊥ = omega arith in z)
low_front (digit {b} {w = s} i d) (digit {b = c} {w} j f) h e =
    let wide : 2 ^ (8 * suc (length w)) ≡ 2 ^ (8 * length w) * 256 =
    ap (λ (k : ℕ). 2 ^ k) (let k : 8 * suc (length w) ≡ 8 * length w + 8 = omega arith in k) ∙ pow-add 2 (8 * length w) 8
    in
    let cut : (low_value s * 256 + b) % (2 ^ (8 * length w) * 256) ≡ (low_value s % 2 ^ (8 * length w)) * 256 + b =
    mod-mul (low_value s * 256 + b) (pow_pos (8 * length w)) (omega arith)
    ∙ ap₂ (λ (x y : ℕ). x % 2 ^ (8 * length w) * 256 + y) (digits_div (low_value s) i) (digits_mod (low_value s) i)
    in
    let both : (low_value s % 2 ^ (8 * length w)) * 256 + b ≡ low_value w * 256 + c =
    sym cut ∙ ap (λ (k : ℕ). (low_value s * 256 + b) % k) (sym wide) ∙ e
    in
    let first : b ≡ c = omega (arith, both, i, j) in
    let others : low_value s % 2 ^ (8 * length w) ≡ low_value w = omega (arith, both, i, j) in
    ap₂ (λ (x : ℕ) (y : Bytes). x ∷ y) first (low_front d f (omega arith) others)

-- ---- eight bytes

module _ {text : Bytes} where
  one_more : (at j : ℕ) {s : Bytes} → at + j < length text → StandsAt text (at + suc j) s → StandsAt text (at + j) (get_or text (at + j) 0 ∷ s)
  one_more at j {s} h t =
      stands_then (get_or text (at + j) 0 ∷ []) s (stands_byte h refl)
      (subst (λ (k : ℕ). StandsAt text k s) (let e : at + suc j ≡ at + j + 1 = omega arith in e) t)

  stands_none : (at : ℕ) → at + 8 ≤ length text → StandsAt text (at + 8) []
  stands_none at h = record { run = ap (λ (k : ℕ). drop k text) (let e : at + 8 ≡ at + 8 + 0 = omega arith in e); within = omega arith }

  pub eight_told
      : {at r : ℕ} → at + 8 ≤ length text → ((i : ℕ) → get_or text i 0 < 256) → r < 2 ^ 64
      → r
      ≡ low_value
      (get_or text at 0
      ∷ get_or text (at + 1) 0
      ∷ get_or text (at + 2) 0
      ∷ get_or text (at + 3) 0
      ∷ get_or text (at + 4) 0
      ∷ get_or text (at + 5) 0
      ∷ get_or text (at + 6) 0
      ∷ get_or text (at + 7) 0
      ∷ [])
      → EightTold text at r
  eight_told {at} h k small e =
      let seven =
      one_more at 1 (omega arith) (one_more at 2 (omega arith) (one_more at 3 (omega arith) (one_more at 4 (omega arith) (one_more at 5 (omega arith)
      (one_more at 6 (omega arith) (one_more at 7 (omega arith) (stands_none at h)))))))
      in
      let all = stands_then (get_or text at 0 ∷ []) _ (stands_byte (omega arith) refl) seven in
      let d = digit (k at) (digit (k (at + 1)) (digit (k (at + 2)) (digit (k (at + 3)) (digit (k (at + 4)) (digit (k (at + 5)) (digit (k (at + 6))
      (digit (k (at + 7)) no_digits)))))))
      in
      record {
        is = λ w f i.
            let (b, l) = fits_digits 8 w f in
            stands_front w _
            (subst (StandsAt text at) (low_front d b l (ap (λ (x : ℕ). x % 2 ^ (8 * length w)) (sym e) ∙ i)) all);
        small = small;
      }

  -- a word, and the byte behind it
  pub word_told
      : {at r n size value : ℕ} {b : Bool} → EightTold text at r → at + 8 ≤ length text → n ≤ 7 → r % size ≡ value
      → BorderAnswer (get_or text (at + n) 0) b → WordStands text at value size n b
  word_told {at} {r} {n} {b} t h m e i =
      record {
        found = λ w f x k s v j.
            let ends : WordByte (get_or text (at + length w) 0) → ⊥ =
            subst (λ (c : Bool). BorderAnswer (get_or text (at + length w) 0) c) j (subst (λ (y : ℕ). BorderAnswer (get_or text (at + y) 0) b) k i)
            in
            subst (λ (y : ℕ). Found text at (word w) at (at + y)) (sym k)
            (word_stands x ends (t.is w f (ap (λ (y : ℕ). r % y) (sym s) ∙ e ∙ v)) (stands_byte (omega (arith, k)) refl));
      }
