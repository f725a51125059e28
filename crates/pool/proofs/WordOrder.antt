-- Two texts of a pool by their words: the first k bytes of two words stand as the words shifted down to them do, and are the same where those
-- are. Assumes nothing.
use Prim.Native.Nat.{ℕ, zero, suc, ◌+◌, ◌-◌, ◌*◌, ◌/◌, ◌%◌, ◌^◌, ◌≤◌, ◌<◌, min, Ordering}
use mathlib.Core.Path.{◌≡◌, sym, ap, ap₂, ◌∙◌}
use mathlib.Core.Bool.{Bool}
use mathlib.Core.List.{List}
use native.Mathlib.Nat.{div-eq_of_lt}
use native.Mathlib.Decide.{dec_lt}
use native.Mathlib.Omega.{arith}
use lib.ListN.{length, get_or, drop}
use lib.Seq.{ext_get_or}
use Rattle.definitions.specs.Bytes.{Bytes, order, same}
use Rattle.pool.specs.Pool.{pool_bytes, text_in}
use Rattle.pool.specs.Lanes.{lane, top}
use Rattle.pool.specs.LaneLaws.{lane_lt, lane_of_top, top_next, top_of_lanes}
use Rattle.pool.specs.PoolLaws.{get_or_pool_word, length_text_in_min, get_or_text_in, text_in_held}
use Rattle.pool.proofs.ByteOrder.{order_less, order_greater, order_next}

-- ---- two words

-- where the first k bytes of a word are lower, one of them is, and those before it are the same
first_lower
    : (x y k : ℕ) → x < 2 ^ 64 → y < 2 ^ 64 → k ≤ 8 → top x k < top y k
    → (j : ℕ) × (j < k) × (top x j ≡ top y j) × (lane x j < lane y j)
first_lower x y zero hx hy hk h = absurd (let z : ⊥ = omega (arith, div-eq_of_lt hx, div-eq_of_lt hy) in z)
first_lower x y (suc k) hx hy hk h = go (dec_lt (top x k) (top y k)) (first_lower x y k hx hy (omega arith))
  where
    go
        : Dec (top x k < top y k) → (top x k < top y k → (j : ℕ) × (j < k) × (top x j ≡ top y j) × (lane x j < lane y j))
        → (j : ℕ) × (j < suc k) × (top x j ≡ top y j) × (lane x j < lane y j)
    go (yes l) before = let f = before l in (f.0, omega (arith, f.1), f.2, f.3)
    go (no l) before =
        let f = top_next x k (omega arith) in
        let g = top_next y k (omega arith) in
        (k, omega arith, omega (arith, f, g, lane_lt x k, lane_lt y k), omega (arith, f, g))

-- ---- two texts

module _ (p : List ℕ) where
  -- byte j of word i of a text
  text_byte : (u n i j : ℕ) → j < 8 → 8 * i + j < n → get_or (text_in p u n) (8 * i + j) 0 ≡ lane (get_or p (u + i) 0) j
  unfolding lane
  text_byte u n i j hj h =
      get_or_text_in p u n (8 * i + j) h
      ∙ ap (λ (k : ℕ). get_or (pool_bytes p) k 0) (let q : 8 * u + (8 * i + j) ≡ 8 * (u + i) + j = omega arith in q)
      ∙ get_or_pool_word p (u + i) j hj

  -- the same of a text as far as the pool has it
  held_byte : (u n i j : ℕ) → j < 8 → 8 * i + j < length (text_in p u n) → get_or (text_in p u n) (8 * i + j) 0 ≡ lane (get_or p (u + i) 0) j
  held_byte u n i j hj h = text_byte u n i j hj (omega (arith, length_text_in_min p u n))

  -- before the first word
  pub words_start
      : (w n v m e : ℕ) → order (text_in p w n) (text_in p v m)
      ≡ order (drop (min (8 * 0) e) (text_in p w n)) (drop (min (8 * 0) e) (text_in p v m))
  words_start w n v m e = ap (λ (j : ℕ). order (drop j (text_in p w n)) (drop j (text_in p v m))) (let q : 0 ≡ min (8 * 0) e = omega arith in q)

  module _ (w n v m i : ℕ) where
    -- where the first k bytes of their words i are the same, what is behind them decides
    behind_tops
        : (k : ℕ) → k ≤ 8 → 8 * i + k ≤ length (text_in p w n) → 8 * i + k ≤ length (text_in p v m)
        → top (get_or p (w + i) 0) k ≡ top (get_or p (v + i) 0) k
        → order (drop (8 * i) (text_in p w n)) (drop (8 * i) (text_in p v m))
        ≡ order (drop (8 * i + k) (text_in p w n)) (drop (8 * i + k) (text_in p v m))
    behind_tops zero hk hs ht e =
        ap (λ (j : ℕ). order (drop j (text_in p w n)) (drop j (text_in p v m))) (let q : 8 * i ≡ 8 * i + 0 = omega arith in q)
    behind_tops (suc k) hk hs ht e =
        let f = top_next (get_or p (w + i) 0) k (omega arith) in
        let g = top_next (get_or p (v + i) 0) k (omega arith) in
        let s = lane_lt (get_or p (w + i) 0) k in
        let t = lane_lt (get_or p (v + i) 0) k in
        let b : lane (get_or p (w + i) 0) k ≡ lane (get_or p (v + i) 0) k = omega (arith, f, g, s, t, e) in
        behind_tops k (omega arith) (omega arith) (omega arith) (omega (arith, f, g, s, t, e))
        ∙ order_next (text_in p w n) (text_in p v m) (8 * i + k) (omega arith) (omega arith)
        (held_byte w n i k (omega arith) (omega arith) ∙ b ∙ sym (held_byte v m i k (omega arith) (omega arith)))
        ∙ ap (λ (j : ℕ). order (drop j (text_in p w n)) (drop j (text_in p v m))) (let q : 8 * i + k + 1 ≡ 8 * i + suc k = omega arith in q)

    -- k bytes of their words i lie before place e, which is in neither's rest
    module _ (e k : ℕ) (hk : k ≡ min (e - 8 * i) 8) (hi : 8 * i < e) (hs : e ≤ length (text_in p w n)) (ht : e ≤ length (text_in p v m)) where
      -- how the rests from place 8 * i on stand
      abbrev from : Ordering → Type 0
      from o = order (drop (min (8 * i) e) (text_in p w n)) (drop (min (8 * i) e) (text_in p v m)) ≡ o

      here : {o : Ordering} → order (drop (8 * i) (text_in p w n)) (drop (8 * i) (text_in p v m)) ≡ o → from o
      here h = ap (λ (j : ℕ). order (drop j (text_in p w n)) (drop j (text_in p v m))) (let q : min (8 * i) e ≡ 8 * i = omega arith in q) ∙ h

      pub words_next
          : top (get_or p (w + i) 0) k ≡ top (get_or p (v + i) 0) k
          → from (order (drop (min (8 * (i + 1)) e) (text_in p w n)) (drop (min (8 * (i + 1)) e) (text_in p v m)))
      words_next h =
          here
          (behind_tops k (omega arith) (omega arith) (omega arith) h
          ∙ ap (λ (j : ℕ). order (drop j (text_in p w n)) (drop j (text_in p v m))) (let q : 8 * i + k ≡ min (8 * (i + 1)) e = omega arith in q))

      module _ (hw : get_or p (w + i) 0 < 2 ^ 64) (hv : get_or p (v + i) 0 < 2 ^ 64) where
        pub words_less : top (get_or p (w + i) 0) k < top (get_or p (v + i) 0) k → from Ordering.lt
        words_less h =
            let f = first_lower (get_or p (w + i) 0) (get_or p (v + i) 0) k hw hv (omega arith) h in
            let a = held_byte w n i f.0 (omega (arith, f.1)) (omega (arith, f.1)) in
            let b = held_byte v m i f.0 (omega (arith, f.1)) (omega (arith, f.1)) in
            here
            (behind_tops f.0 (omega (arith, f.1)) (omega (arith, f.1)) (omega (arith, f.1)) f.2
            ∙ order_less (text_in p w n) (text_in p v m) (8 * i + f.0) (omega (arith, f.1)) (omega (arith, f.1)) (omega (arith, a, b, f.3)))

        pub words_greater : top (get_or p (v + i) 0) k < top (get_or p (w + i) 0) k → from Ordering.gt
        words_greater h =
            let f = first_lower (get_or p (v + i) 0) (get_or p (w + i) 0) k hv hw (omega arith) h in
            let a = held_byte w n i f.0 (omega (arith, f.1)) (omega (arith, f.1)) in
            let b = held_byte v m i f.0 (omega (arith, f.1)) (omega (arith, f.1)) in
            here
            (behind_tops f.0 (omega (arith, f.1)) (omega (arith, f.1)) (omega (arith, f.1)) (sym f.2)
            ∙ order_greater (text_in p w n) (text_in p v m) (8 * i + f.0) (omega (arith, f.1)) (omega (arith, f.1)) (omega (arith, a, b, f.3)))

  -- ---- texts of n bytes

  pub same_held
      : (w n v m k l : ℕ) {b : Bool} → k ≡ length (text_in p w n) → l ≡ length (text_in p v m)
      → b ≡ same (text_in p w k) (text_in p v l) → b ≡ same (text_in p w n) (text_in p v m)
  same_held w n v m k l d e q = q ∙ ap₂ same (text_in_held p w n k d) (text_in_held p v m l e)

  -- the first k words from word w on are those from word v on
  abbrev pub Alike : ℕ → ℕ → ℕ → Type 0
  Alike w v k = (i : ℕ) → i < k → get_or p (w + i) 0 ≡ get_or p (v + i) 0

  pub alike_next : (w v k : ℕ) → Alike w v k → get_or p (w + k) 0 ≡ get_or p (v + k) 0 → Alike w v (k + 1)
  alike_next w v k before here i h = go (dec_lt i k)
    where
      go : Dec (i < k) → get_or p (w + i) 0 ≡ get_or p (v + i) 0
      go (yes l) = before i l
      go (no l) =
          let e : i ≡ k = omega arith in
          ap (λ (j : ℕ). get_or p (w + j) 0) e ∙ here ∙ ap (λ (j : ℕ). get_or p (v + j) 0) (sym e)

  module _ (w v n : ℕ) where
    -- where the texts are the same, so are the first k bytes of their words i
    pub top_of_texts
        : (i k : ℕ) → k ≤ 8 → 8 * i + k ≤ n → get_or p (w + i) 0 < 2 ^ 64 → get_or p (v + i) 0 < 2 ^ 64
        → text_in p w n ≡ text_in p v n → top (get_or p (w + i) 0) k ≡ top (get_or p (v + i) 0) k
    top_of_texts i k hk h hw hv e =
        top_of_lanes (get_or p (w + i) 0) (get_or p (v + i) 0) k hw hv hk
        (λ j l.
        let hj : j < 8 = omega arith in
        let hn : 8 * i + j < n = omega arith in
        sym (text_byte w n i j hj hn) ∙ ap (λ (s : Bytes). get_or s (8 * i + j) 0) e ∙ text_byte v n i j hj hn)

    -- where whole words are the same, and then the bytes that fill no word, so are the texts
    pub texts_of_words
        : length (text_in p w n) ≡ n → length (text_in p v n) ≡ n
        → Alike w v (n / 8)
        → (0 < n % 8 → top (get_or p (w + n / 8) 0) (n % 8) ≡ top (get_or p (v + n / 8) 0) (n % 8))
        → text_in p w n ≡ text_in p v n
    texts_of_words lw lv words rest =
        ext_get_or 0 (text_in p w n) (text_in p v n) (lw ∙ sym lv)
        (λ b l.
        let h : 8 * (b / 8) + b % 8 < n = omega arith in
        let q : b ≡ 8 * (b / 8) + b % 8 = omega arith in
        ap (λ (k : ℕ). get_or (text_in p w n) k 0) q
        ∙ text_byte w n (b / 8) (b % 8) (omega arith) h
        ∙ go b h (dec_lt (b / 8) (n / 8))
        ∙ sym (text_byte v n (b / 8) (b % 8) (omega arith) h)
        ∙ ap (λ (k : ℕ). get_or (text_in p v n) k 0) (sym q))
      where
        go : (b : ℕ) → 8 * (b / 8) + b % 8 < n → Dec (b / 8 < n / 8) → lane (get_or p (w + b / 8) 0) (b % 8) ≡ lane (get_or p (v + b / 8) 0) (b % 8)
        go b h (yes l) = ap (λ (x : ℕ). lane x (b % 8)) (words (b / 8) l)
        go b h (no l) =
            let q : b / 8 ≡ n / 8 = omega arith in
            ap (λ (i : ℕ). lane (get_or p (w + i) 0) (b % 8)) q
            ∙ lane_of_top (get_or p (w + n / 8) 0) (get_or p (v + n / 8) 0) (n % 8) (b % 8) (omega arith) (omega arith) (rest (omega arith))
            ∙ ap (λ (i : ℕ). lane (get_or p (v + i) 0) (b % 8)) (sym q)
