-- Bytes put into the pool behind a text: one, none, one run after another. Assumes nothing.
use Prim.Native.Nat.{ℕ, ◌+◌, ◌-◌, ◌*◌, ◌/◌, ◌%◌, ◌≤◌, ◌<◌}
use mathlib.Core.Path.{◌≡◌, refl, sym, ap, ap₂, ◌∙◌, subst}
use mathlib.Core.List.{List, [], ◌∷◌, ◌++◌, append_assoc, append-nil}
use lib.ListN.{length, take, drop, get_or, replicate, length-append}
use lib.Seq.{length-take-le, take-take, take-add, take-suc, take_all, drop-drop}
use native.Mathlib.Numerals.{add-one}
use native.Mathlib.Nat.{add-zero}
use native.Mathlib.Omega.{arith}
use Rattle.definitions.specs.Bytes.{Bytes}
use Rattle.pool.specs.Pool.{words, pool_bytes, text_in, Put}
use Rattle.pool.specs.PoolLaws.{words_next, words_mono, words_room, text_in_front, text_in_zero, text_in_put, text_in_put_padded, put_take}
use Rattle.text.specs.TextRead.{Padded}
use Rattle.text.specs.TextParts.{Keeps, Puts}

-- ---- Keeps

pub keeps_none : (p : List ℕ) (w : ℕ) → Keeps p p w
keeps_none p w = record { kept = refl; front = refl }

pub keeps_then : {p p' p'' : List ℕ} {w : ℕ} → Keeps p p' w → Keeps p' p'' w → Keeps p p'' w
keeps_then h k = record { kept = k.kept ∙ h.kept; front = k.front ∙ h.front }

-- ---- Puts

pub puts_none : (p : List ℕ) (w n : ℕ) → Puts p p w n []
puts_none p w n =
    record {
      text = ap (text_in p w) (add-zero n) ∙ sym (append-nil (text_in p w n));
      padded = λ h. subst (Padded p w) (sym (add-zero n)) h;
      keeps = keeps_none p w;
    }

pub puts_one : {p p' : List ℕ} {k b : ℕ} (w n : ℕ) → Put p p' k b → k ≡ 8 * w + n → k / 8 < length p → Puts p p' w n (b ∷ [])
unfolding Padded
puts_one {p} {p'} {k} {b} w n h e l =
    record {
      text = one;
      padded = λ _.
          text_in_put_padded p p' w n k b e l h.bytes refl
          ∙ ap (λ (z : ℕ). text_in p w n ++ (b ∷ replicate z 0)) zeros
          ∙ sym (append_assoc (text_in p w n) (b ∷ []) (replicate (8 * words (n + 1) - (n + 1)) 0))
          ∙ ap (λ (t : Bytes). t ++ replicate (8 * words (n + 1) - (n + 1)) 0) (sym one);
      keeps = record { kept = h.kept; front = put_take w h (omega arith) };
    }
  where
    one : text_in p' w (n + 1) ≡ text_in p w n ++ (b ∷ [])
    one = text_in_put p p' w n k b e l h.bytes refl

    zeros : 7 - n % 8 ≡ 8 * words (n + 1) - (n + 1)
    zeros = omega (arith, words_next n)

pub puts_then
    : {p p' p'' : List ℕ} {w n m : ℕ} {s t : Bytes} → Puts p p' w n s → m ≡ n + length s → Puts p' p'' w m t → Puts p p'' w n (s ++ t)
puts_then {p} {p'} {p''} {w} {n} {m} {s} {t} h e k =
    record {
      text = ap (text_in p'' w) size
          ∙ k.text
          ∙ ap (λ (u : Bytes). u ++ t) (ap (text_in p' w) e ∙ h.text)
          ∙ append_assoc (text_in p w n) s t;
      padded = λ z. subst (Padded p'' w) (sym size) (k.padded (subst (Padded p' w) (sym e) (h.padded z)));
      keeps = keeps_then h.keeps k.keeps;
    }
  where
    size : n + length (s ++ t) ≡ m + length t
    size = omega (arith, length-append s t)

pub puts_same : {p p' : List ℕ} {w n : ℕ} {s t : Bytes} → Puts p p' w n s → s ≡ t → Puts p p' w n t
puts_same {p} {p'} {w} {n} h e = subst (Puts p p' w n) e h

-- a text's first k words, and what is behind them
text_behind : (p : List ℕ) (w k m : ℕ) → text_in p w (8 * k + m) ≡ text_in p w (8 * k) ++ text_in p (w + k) m
unfolding text_in
text_behind p w k m =
    take-add (8 * k) m (drop (8 * w) (pool_bytes p))
    ∙ ap (λ (s : Bytes). take (8 * k) (drop (8 * w) (pool_bytes p)) ++ take m s)
    (drop-drop (8 * k) (8 * w) (pool_bytes p) ∙ ap (λ (j : ℕ). drop j (pool_bytes p)) (let e : 8 * w + 8 * k ≡ 8 * (w + k) = omega arith in e))

-- what is put at a border is put behind the words before it
pub puts_behind : {p p' : List ℕ} {w n : ℕ} {s : Bytes} → n % 8 ≡ 0 → Puts p p' (w + n / 8) 0 s → Puts p p' w n s
unfolding Padded words
puts_behind {p} {p'} {w} {n} {s} z h =
    record {
      text = text;
      padded = λ _.
          ap (text_in p' w) (let f : 8 * ((n + length s + 7) / 8) ≡ 8 * k + 8 * ((m + 7) / 8) = omega arith in f)
          ∙ text_behind p' w k (8 * ((m + 7) / 8))
          ∙ ap (λ (t : Bytes). text_in p' w (8 * k) ++ t) (h.padded (sym (append-nil (text_in p (w + k) 0))))
          ∙ sym (append_assoc (text_in p' w (8 * k)) (text_in p' (w + k) m) (replicate (8 * ((m + 7) / 8) - m) 0))
          ∙ ap (λ (t : Bytes). t ++ replicate (8 * ((m + 7) / 8) - m) 0) (sym (text_behind p' w k m))
          ∙ ap₂ (λ (i j : ℕ). text_in p' w i ++ replicate j 0) (let f : 8 * k + m ≡ n + length s = omega arith in f)
          (let f : 8 * ((m + 7) / 8) - m ≡ 8 * ((n + length s + 7) / 8) - (n + length s) = omega arith in f);
      keeps = record {
        kept = h.keeps.kept;
        front = sym (take-take w (w + k) p' (omega arith)) ∙ ap (take w) h.keeps.front ∙ take-take w (w + k) p (omega arith);
      };
    }
  where
    k : ℕ
    k = n / 8

    m : ℕ
    m = 0 + length s

    text : text_in p' w (n + length s) ≡ text_in p w n ++ s
    text =
        ap (text_in p' w) (let f : n + length s ≡ 8 * k + m = omega arith in f)
        ∙ text_behind p' w k m
        ∙ ap₂ (λ (t u : Bytes). t ++ u) (text_in_front p p' (w + k) w (8 * k) h.keeps.front (omega arith))
        (h.text ∙ ap (λ (t : Bytes). t ++ s) (text_in_zero p (w + k)))
        ∙ ap (λ (i : ℕ). text_in p w i ++ s) (let f : 8 * k ≡ n = omega arith in f)

pub room_behind : (w n j : ℕ) {l : ℕ} → n % 8 ≡ 0 → w + words (n + j) ≤ l → w + n / 8 + words j ≤ l
unfolding words
room_behind w n j z h = omega arith

-- ---- bytes put one by one

module _ (s : Bytes) {p₀ p : List ℕ} {w n i : ℕ} (h : Puts p₀ p w n (take i s)) (room : w + words (n + length s) ≤ length p₀) where
  pub next_room : i < length s → (8 * w + n + i) / 8 < length p
  next_room l =
      let k = h.keeps.kept in
      let o : words (n + i + 1) ≤ words (n + length s) = words_mono (omega arith) in
      omega (arith, words_room w (n + i) (length p) (omega arith))

  pub puts_next : {p' : List ℕ} → i < length s → Put p p' (8 * w + n + i) (get_or s i 0) → Puts p₀ p' w n (take (i + 1) s)
  puts_next l q =
      puts_same
      (puts_then h (ap (λ (k : ℕ). n + k) (sym (length-take-le i s (omega arith)))) (puts_one w (n + i) q (omega arith) (next_room l)))
      (sym (take-suc s i 0 l) ∙ ap (λ (k : ℕ). take k s) (sym (add-one i)))

  pub puts_all : length s ≤ i → Puts p₀ p w n s
  puts_all l = puts_same h (take_all i s l)
