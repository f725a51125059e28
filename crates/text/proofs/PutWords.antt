-- Words put into the pool: what they make of a text behind which they are put, at a border or within a word. Assumes nothing.
use Prim.Native.Nat.{ℕ, zero, suc, ◌+◌, ◌-◌, ◌*◌, ◌/◌, ◌%◌, ◌^◌, ◌≤◌, ◌<◌}
use mathlib.Core.Path.{◌≡◌, refl, sym, ap, ap₂, ◌∙◌, subst}
use mathlib.Core.List.{List, [], ◌∷◌, ◌++◌, append_assoc, append-nil}
use native.Mathlib.Decide.{dec_lt}
use native.Mathlib.Omega.{arith}
use lib.Bits.{bit_or, or_zero_r}
use lib.ListN.{length, take, drop, get_or, set, replicate, length-append, length-set, length-drop, take-append-drop, replicate-append-replicate}
use lib.ListN.{get_or-replicate, get_or-append}
use lib.Seq.{take-suc-set, drop-set-add, take-set-le, take_all, take_at, take-take, take-append-add, length-take-le, set-get_or}
use lib.Seq.{get_or-take, get_or-append-add}
use Rattle.definitions.specs.Bytes.{Bytes}
use Rattle.pool.specs.Pool.{unpacked, pool_bytes, words, text_in}
use Rattle.pool.specs.Lanes.{lane}
use Rattle.pool.specs.LaneLaws.{unpacked_lane, unpacked_by, lane_or, lane_shr, lane_shr_out, unpacked_shl}
use Rattle.pool.specs.PoolLaws.{pool_bytes_append, take_pool_bytes, drop_pool_bytes, length_unpacked, length_text_in, take_text_in, bytes_words}
use Rattle.text.specs.TextRead.{Padded}
use Rattle.text.specs.TextParts.{Keeps, Puts}
use Rattle.text.proofs.Puts.{keeps_then}

-- ---- words put

text_words : (p : List ℕ) (w m : ℕ) → text_in p w (8 * m) ≡ pool_bytes (take m (drop w p))
unfolding text_in
text_words p w m = ap (take (8 * m)) (drop_pool_bytes w p) ∙ take_pool_bytes m (drop w p)

-- word k of a text set: the words before it, and its bytes
set_text : (p : List ℕ) (w k x : ℕ) → w + k < length p → text_in (set p (w + k) x) w (8 * suc k) ≡ text_in p w (8 * k) ++ unpacked x
unfolding pool_bytes
set_text p w k x room =
    text_words (set p (w + k) x) w (suc k)
    ∙ ap (λ (y : List ℕ). pool_bytes (take (suc k) y)) (drop-set-add w p k x)
    ∙ ap pool_bytes (take-suc-set (drop w p) k x (omega (arith, length-drop w p)))
    ∙ pool_bytes_append (take k (drop w p)) (x ∷ [])
    ∙ ap (λ (y : Bytes). pool_bytes (take k (drop w p)) ++ y) (append-nil (unpacked x))
    ∙ ap (λ (y : Bytes). y ++ unpacked x) (sym (text_words p w k))

set_keeps : (p : List ℕ) (w k x : ℕ) → Keeps p (set p (w + k) x) w
set_keeps p w k x = record { kept = length-set p (w + k) x; front = take-set-le w p (w + k) x (omega arith) }

take_zeros : (i n : ℕ) → i ≤ n → ◌≡◌ {A = Bytes} (take i (replicate n 0)) (replicate i 0)
take_zeros zero n h = refl
take_zeros (suc i) zero h = absurd (let z : ⊥ = omega arith in z)
take_zeros (suc i) (suc n) h = ap (λ (s : Bytes). 0 ∷ s) (take_zeros i n (omega arith))

-- the text, bytes s and zeros fill h words
module _ (p q : List ℕ) (w n h z : ℕ) (s : Bytes) (l : length (text_in p w n) ≡ n) (fill : n + length s + z ≡ 8 * h)
    (e : text_in q w (8 * h) ≡ (text_in p w n ++ s) ++ replicate z 0) where
  sizes : length (text_in p w n ++ s) ≡ n + length s
  sizes = length-append (text_in p w n) s ∙ ap (λ (k : ℕ). k + length s) l

  -- as many of the zeros as are asked for
  zeros_text : (j : ℕ) → j ≤ z → text_in q w (n + length s + j) ≡ (text_in p w n ++ s) ++ replicate j 0
  zeros_text j b =
      sym (take_text_in q w (n + length s + j) (8 * h) (omega arith))
      ∙ ap (take (n + length s + j)) e
      ∙ ap (λ (k : ℕ). take (k + j) ((text_in p w n ++ s) ++ replicate z 0)) (sym sizes)
      ∙ take-append-add (text_in p w n ++ s) (replicate z 0) j
      ∙ ap (λ (t : Bytes). (text_in p w n ++ s) ++ t) (take_zeros j z b)

  pub puts_zeros : Keeps p q w → Puts p q w n s
  unfolding Padded words
  puts_zeros k =
      record {
        text = text;
        padded = λ _.
            ap (text_in q w) (let f : 8 * ((n + length s + 7) / 8) ≡ n + length s + (8 * ((n + length s + 7) / 8) - (n + length s)) = omega arith in f)
            ∙ zeros_text (8 * ((n + length s + 7) / 8) - (n + length s)) (omega arith)
            ∙ ap (λ (t : Bytes). t ++ replicate (8 * ((n + length s + 7) / 8) - (n + length s)) 0) (sym text);
        keeps = k;
      }
    where
      text : text_in q w (n + length s) ≡ text_in p w n ++ s
      text =
          ap (text_in q w) (let f : n + length s ≡ n + length s + 0 = omega arith in f)
          ∙ zeros_text 0 (omega arith)
          ∙ append-nil (text_in p w n ++ s)

-- a word put at a border: bytes s, and zeros behind them
pub puts_word
    : (p : List ℕ) (w n x m : ℕ) (s : Bytes) → n % 8 ≡ 0 → w + n / 8 < length p → m ≤ 8 → length s ≡ m
    → unpacked x ≡ s ++ replicate (8 - m) 0
    → Puts p (set p (w + n / 8) x) w n s
puts_word p w n x m s z room hm l e =
    puts_zeros p (set p (w + n / 8) x) w n (suc (n / 8)) (8 - m) s
    (length_text_in p w n (bytes_words w n (length p) (omega arith))) (omega arith)
    (set_text p w (n / 8) x room
    ∙ ap (λ (k : ℕ). text_in p w k ++ unpacked x) (let f : 8 * (n / 8) ≡ n = omega arith in f)
    ∙ ap (λ (t : Bytes). text_in p w n ++ t) e
    ∙ sym (append_assoc (text_in p w n) s (replicate (8 - m) 0)))
    (set_keeps p w (n / 8) x)

join : (a b c d e : Bytes) → (a ++ (b ++ c)) ++ (d ++ e) ≡ (a ++ b) ++ ((c ++ d) ++ e)
join a b c d e = simp append_assoc

shift : (a b c d : Bytes) → a ++ ((b ++ c) ++ d) ≡ (a ++ b) ++ (c ++ d)
shift a b c d = simp append_assoc

-- put within a word, whose first bytes are kept, and on in the next
pub puts_part
    : (p : List ℕ) (w n x m y z : ℕ) (s : Bytes) → w + n / 8 + 1 < length p → m ≤ 8 → length s ≡ m
    → unpacked x ≡ s ++ replicate (8 - m) 0
    → unpacked y ≡ take (n % 8) (unpacked (get_or p (w + n / 8) 0)) ++ take (8 - n % 8) (unpacked x)
    → unpacked z ≡ drop (8 - n % 8) (unpacked x) ++ replicate (8 - n % 8) 0
    → Puts p (set (set p (w + n / 8) y) (w + n / 8 + 1) z) w n s
puts_part p w n x m y z s room hm l e f g =
    subst (λ (u : ℕ). Puts p (set (set p (w + k) y) u z) w n s) (let q : w + suc k ≡ w + k + 1 = omega arith in q)
    (puts_zeros p (set (set p (w + k) y) (w + suc k) z) w n (suc (suc k)) (8 - m + (8 - r)) s
    (length_text_in p w n (bytes_words w n (length p) (omega arith))) (omega arith)
    (set_text (set p (w + k) y) w (suc k) z (omega (arith, length-set p (w + k) y))
    ∙ ap (λ (t : Bytes). t ++ unpacked z) (set_text p w k y (omega arith))
    ∙ bytes)
    (keeps_then (set_keeps p w k y) (set_keeps (set p (w + k) y) w (suc k) z)))
  where
    k : ℕ
    k = n / 8

    r : ℕ
    r = n % 8

    old : Bytes
    old = unpacked (get_or p (w + k) 0)

    -- the text with what its last word has of it
    before : text_in p w n ≡ text_in p w (8 * k) ++ take r old
    before =
        sym (take_text_in p w n (8 * suc k) (omega arith))
        ∙ ap (take n)
        (ap (λ (q : List ℕ). text_in q w (8 * suc k)) (sym (set-get_or p (w + k) 0)) ∙ set_text p w k (get_or p (w + k) 0) (omega arith))
        ∙ ap (λ (j : ℕ). take j (text_in p w (8 * k) ++ old))
        (let q : n ≡ length (text_in p w (8 * k)) + r = omega (arith, length_text_in p w (8 * k) (bytes_words w (8 * k) (length p) (omega arith))) in q)
        ∙ take-append-add (text_in p w (8 * k)) old r

    bytes : (text_in p w (8 * k) ++ unpacked y) ++ unpacked z ≡ (text_in p w n ++ s) ++ replicate (8 - m + (8 - r)) 0
    bytes =
        ap₂ (λ (t u : Bytes). (text_in p w (8 * k) ++ t) ++ u) f g
        ∙ join (text_in p w (8 * k)) (take r old) (take (8 - r) (unpacked x)) (drop (8 - r) (unpacked x)) (replicate (8 - r) 0)
        ∙ ap₂ (λ (t u : Bytes). t ++ (u ++ replicate (8 - r) 0)) (sym before) (take-append-drop (8 - r) (unpacked x) ∙ e)
        ∙ shift (text_in p w n) s (replicate (8 - m) 0) (replicate (8 - r) 0)
        ∙ ap (λ (t : Bytes). (text_in p w n ++ s) ++ t) (replicate-append-replicate (8 - m) (8 - r) 0)

-- ---- the words that are put

pub room_word : (w n : ℕ) {l : ℕ} → w + words (n + 8) ≤ l → w + n / 8 < l
unfolding words
room_word w n h = omega arith

pub room_words : (w n : ℕ) {l : ℕ} → w + words (n + 8) ≤ l → (n % 8 ≡ 0 → ⊥) → w + n / 8 + 1 < l
unfolding words
room_words w n h z = omega arith

pub front_size : (x m : ℕ) → m ≤ 8 → length (take m (unpacked x)) ≡ m
front_size x m h = length-take-le m (unpacked x) (omega (arith, length_unpacked x))

-- the first bytes of a word whose first bytes are those of another
pub same_front : (x y m : ℕ) → m ≤ 8 → unpacked y ≡ take m (unpacked x) ++ replicate (8 - m) 0 → take m (unpacked y) ≡ take m (unpacked x)
same_front x y m h e = ap (take m) e ∙ take_at (take m (unpacked x)) (replicate (8 - m) 0) m (front_size x m h)

pub front_alone
    : (x y m : ℕ) → m ≤ 8 → unpacked y ≡ take m (unpacked x) ++ replicate (8 - m) 0
    → unpacked y ≡ take m (unpacked y) ++ replicate (8 - m) 0
front_alone x y m h e = e ∙ ap (λ (s : Bytes). s ++ replicate (8 - m) 0) (sym (same_front x y m h e))

pub front_whole : (x : ℕ) → unpacked x ≡ take 8 (unpacked x) ++ replicate (8 - 8) 0
front_whole x = sym (take_all 8 (unpacked x) (omega (arith, length_unpacked x))) ∙ sym (append-nil (take 8 (unpacked x)))

-- the first bytes of a word of a document
pub front_part : (x m : ℕ) (doc : Bytes) (i : ℕ) → m ≤ 8 → unpacked x ≡ take 8 (drop i doc) → take m (unpacked x) ≡ take m (drop i doc)
front_part x m doc i h e = ap (take m) e ∙ take-take m 8 (drop i doc) h

-- r bytes s, and behind them those of x
pub word_joined
    : (a x r : ℕ) (s : Bytes) → x < 2 ^ 64 → r ≤ 8 → length s ≡ r → unpacked a ≡ s ++ replicate (8 - r) 0
    → unpacked (bit_or a (x / 2 ^ (8 * r))) ≡ s ++ take (8 - r) (unpacked x)
word_joined a x r s hx hr l e =
    unpacked_by (bit_or a (x / 2 ^ (8 * r))) (s ++ take (8 - r) (unpacked x))
    (length-append s (take (8 - r) (unpacked x)) ∙ omega (arith, front_size x (8 - r) (omega arith)))
    (λ j h. lane_or a (x / 2 ^ (8 * r)) j ∙ byte j h (dec_lt j r))
  where
    of_a : (j : ℕ) → j < 8 → lane a j ≡ get_or (s ++ replicate (8 - r) 0) j 0
    of_a j h = sym (unpacked_lane a j h) ∙ ap (λ (t : Bytes). get_or t j 0) e

    behind : (t : Bytes) (j : ℕ) → r ≤ j → get_or (s ++ t) j 0 ≡ get_or t (j - r) 0
    behind t j h =
        ap (λ (k : ℕ). get_or (s ++ t) k 0) (let q : j ≡ length s + (j - r) = omega arith in q) ∙ get_or-append-add s t (j - r) 0

    byte : (j : ℕ) → j < 8 → Dec (j < r) → bit_or (lane a j) (lane (x / 2 ^ (8 * r)) j) ≡ get_or (s ++ take (8 - r) (unpacked x)) j 0
    byte j h (yes b) =
        ap₂ bit_or (of_a j h ∙ get_or-append s (replicate (8 - r) 0) 0 j (omega arith)) (lane_shr_out x r j hx b h)
        ∙ or_zero_r (get_or s j 0)
        ∙ sym (get_or-append s (take (8 - r) (unpacked x)) 0 j (omega arith))
    byte j h (no b) =
        ap₂ bit_or (of_a j h ∙ behind (replicate (8 - r) 0) j (omega arith) ∙ get_or-replicate (8 - r) (j - r) 0 0 (omega arith))
        (lane_shr x r j (omega arith) h)
        ∙ sym (unpacked_lane x (j - r) (omega arith))
        ∙ sym (get_or-take (8 - r) (unpacked x) (j - r) 0 (omega arith))
        ∙ sym (behind (take (8 - r) (unpacked x)) j (omega arith))

-- what is left of x for the next word
pub word_behind : (x r : ℕ) → r ≤ 8 → unpacked (x * 2 ^ (64 - 8 * r) % 2 ^ 64) ≡ drop (8 - r) (unpacked x) ++ replicate (8 - r) 0
word_behind x r h =
    ap (λ (e : ℕ). unpacked (x * 2 ^ e % 2 ^ 64)) (let q : 64 - 8 * r ≡ 8 * (8 - r) = omega arith in q) ∙ unpacked_shl x (8 - r) (omega arith)
