-- Coefficients with digits: one by one, and many at once. Assumes nothing.
use Prim.Native.Nat.{ℕ, zero, suc, ◌+◌, ◌-◌, ◌*◌, ◌/◌, ◌^◌, ◌≤◌, ◌<◌, min}
use native.Mathlib.Nat.{le_refl, lt_of_lt_of_le, zero-add, add-zero, add-suc, add_assoc, mul_assoc, pow-suc, pow-le-pow_right}
use native.Mathlib.Decide.{dec_lt}
use native.Mathlib.Omega.{arith}
use mathlib.Core.Path.{◌≡◌, refl, sym, ap, ap₂, ◌∙◌, subst}
use lib.Arith.{digits_lt}
use lib.ListN.{length, get_or, take, drop, length-drop}
use lib.Seq.{length-take-le}
use native.Mathlib.Numerals.{add-one}
use Rattle.std.proofs.lemmas.List.{get_or-drop, get_or-take}
use lib.Pow.{pow-add}
use Rattle.definitions.specs.Bytes.{Bytes}
use Rattle.pool.specs.Lanes.{lane}
use Rattle.pool.specs.LaneLaws.{lane_shr, lane_shr_out}
use Rattle.number.specs.NumberCode.{AllDigits, DigitLanes, HasRoom, FirstCount, onto, Taken, lanes_value, past_coefficient}
use Rattle.number.proofs.Caps.{shifted_cap}
use Rattle.number.proofs.Rows.{row_bounds}
use Rattle.number.proofs.DigitRuns.{digits_front, digits_back}

-- ---- one by one

pub taken_none : {doc : Bytes} {at c : ℕ} → Taken doc at 0 c c
unfolding onto
taken_none = record { capped = λ k e. e }

pub taken_next
    : {doc : Bytes} {at n c c₁ c₂ : ℕ} → Taken doc at n c c₁
    → c₂ ≡ min (c₁ * 10 + (get_or doc (at + n) 0 - 48)) past_coefficient → Taken doc at (n + 1) c c₂
unfolding onto
taken_next {doc} {at} {n} {c₁ = c₁} {c₂ = c₂} t f =
    record { capped = λ k e. rw add-one (shifted_cap c₁ (onto doc at n k) c₂ (get_or doc (at + n) 0 - 48) (t.capped k e) f) }

-- a byte of the part
pub part_byte : (doc : Bytes) (at n i : ℕ) → i < n → get_or (take n (drop at doc)) i 0 ≡ get_or doc (at + i) 0
part_byte doc at n i h = get_or-take n (drop at doc) i 0 h ∙ get_or-drop at doc i 0

pub part_length : {doc : Bytes} {at end : ℕ} → AllDigits doc at end → length (take (end - at) (drop at doc)) ≡ end - at
part_length {doc} {at} {end} h = length-take-le (end - at) (drop at doc) (omega (arith, length-drop at doc, h.behind, h.within))

-- ---- many at once

-- digits behind digits
onto_join : (doc : Bytes) (at m n k : ℕ) → onto doc (at + m) n (onto doc at m k) ≡ onto doc at (m + n) k
unfolding onto
onto_join doc at m zero k = ap (λ (i : ℕ). onto doc at i k) (sym (add-zero m))
onto_join doc at m (suc n) k =
    ap₂ (λ (c i : ℕ). c * 10 + (get_or doc i 0 - 48)) (onto_join doc at m n k) (add_assoc at m n)
    ∙ ap (λ (i : ℕ). onto doc at i k) (sym (add-suc m n))

pub taken_join
    : {doc : Bytes} {at m end c c₁ c₂ : ℕ} → at + m ≤ end → Taken doc at m c c₁ → Taken doc (at + m) (end - (at + m)) c₁ c₂
    → Taken doc at (end - at) c c₂
taken_join {doc} {at} {m} {end} h t u =
    record {
      capped = λ k e.
          u.capped (onto doc at m k) (t.capped k e)
          ∙ ap (λ (n : ℕ). min n past_coefficient)
          (onto_join doc at m (end - (at + m)) k
          ∙ ap (λ (n : ℕ). onto doc at n k) (let q : m + (end - (at + m)) ≡ end - at = omega arith in q));
    }

-- a coefficient moves up by the digits behind it
onto_moved : (doc : Bytes) (at n k : ℕ) → onto doc at n k ≡ k * 10 ^ n + onto doc at n 0
unfolding onto
onto_moved doc at zero k = omega arith
onto_moved doc at (suc n) k =
    let p : k * 10 ^ suc n ≡ k * 10 ^ n * 10 = ap (λ (x : ℕ). k * x) (pow-suc 10 n) ∙ sym (mul_assoc k (10 ^ n) 10) in
    omega (arith, onto_moved doc at n k, p)

onto_small : (doc : Bytes) (at n : ℕ) → AllDigits doc at (at + n) → onto doc at n 0 < 10 ^ n
unfolding onto
onto_small doc at zero d = omega arith
onto_small doc at (suc n) d =
    let m = row_bounds 48 57 (get_or doc (at + n) 0) (d.each (at + n) (omega arith) (omega arith)) in
    omega (arith, pow-suc 10 n, onto_small doc at n (digits_front (omega arith) (omega arith) d), m.0, m.1)

-- m digits behind a coefficient make it one of at most t digits
grown_small
    : {doc : Bytes} {at m c : ℕ} (t : ℕ) → AllDigits doc at (at + m) → m ≤ t → c < 10 ^ (t - m) → c * 10 ^ m + onto doc at m 0 < 10 ^ t
grown_small {doc} {at} {m} {c} t d h l =
    let whole : 10 ^ (t - m) * 10 ^ m ≡ 10 ^ t =
    sym (pow-add 10 (t - m) m) ∙ ap (λ (n : ℕ). 10 ^ n) (let q : t - m + m ≡ t = omega arith in q)
    in
    subst (λ (n : ℕ). c * 10 ^ m + onto doc at m 0 < n) whole (digits_lt l (onto_small doc at m d))

-- where there is room for so many digits, no cap is reached
module _ {doc : Bytes} {at m c : ℕ} (d : AllDigits doc at (at + m)) (h : m ≤ 18) (l : c < 10 ^ (18 - m)) where
  room : c * 10 ^ m + onto doc at m 0 < past_coefficient
  room = grown_small 18 d h l

  pub many_room : c * 10 ^ m < past_coefficient
  many_room = omega (arith, room)

  pub many_fit : {v : ℕ} → v ≡ onto doc at m 0 → c * 10 ^ m + v < past_coefficient
  many_fit e = omega (arith, room, e)

  pub taken_many : {v : ℕ} → v ≡ onto doc at m 0 → Taken doc at m c (c * 10 ^ m + v)
  taken_many {v} e =
      record {
        capped = λ k q.
            let below : c < past_coefficient = lt_of_lt_of_le l (le_of_pow (18 - m) (omega arith)) in
            let same : k ≡ c = omega arith in
            omega (arith, room, e, ap (onto doc at m) same ∙ onto_moved doc at m c);
      }
    where
      le_of_pow : (n : ℕ) → n ≤ 18 → 10 ^ n ≤ past_coefficient
      le_of_pow n b = pow-le-pow_right (omega arith) b

-- the bytes of a word as digits: zeros, and then the digits
module _ (doc : Bytes) (at x z : ℕ) (zeros : (j : ℕ) → j < z → lane x j ≡ 0) where
  no_value : (n : ℕ) → n ≤ z → lanes_value x n ≡ 0
  unfolding lanes_value
  no_value zero h = refl
  no_value (suc n) h = omega (arith, no_value n (omega arith), zeros n h)

  value_of : (m n : ℕ) → n ≤ m → ((j : ℕ) → j < m → lane x (z + j) ≡ get_or doc (at + j) 0 - 48) → lanes_value x (z + n) ≡ onto doc at n 0
  unfolding lanes_value onto
  value_of m zero h v = ap (lanes_value x) (add-zero z) ∙ no_value z (le_refl z)
  value_of m (suc n) h v =
      ap (lanes_value x) (add-suc z n) ∙ ap₂ (λ (c b : ℕ). c * 10 + b) (value_of m n (omega arith) v) (v n h)

-- ---- from a word

module _ {doc : Bytes} {at x : ℕ} (v : DigitLanes doc at x) where
  here : (m : ℕ) → m ≤ 8 → AllDigits doc at (at + m) → (j : ℕ) → j < m → lane x j ≡ get_or doc (at + j) 0 - 48
  here m h d j l = v.value j (omega arith) (d.each (at + j) (omega arith) (omega arith))

  value_small : (m j : ℕ) → j < m → AllDigits doc at (at + m) → get_or doc (at + j) 0 - 48 < 10
  value_small m j l d =
      let b = row_bounds 48 57 (get_or doc (at + j) 0) (d.each (at + j) (omega arith) (omega arith)) in
      omega (arith, b.0, b.1)

  -- eight digits
  pub eight_small : AllDigits doc at (at + 8) → (j : ℕ) → j < 8 → lane x j < 10
  eight_small d j l = omega (arith, here 8 (omega arith) d j l, value_small 8 j l d)

  pub eight_value : AllDigits doc at (at + 8) → lanes_value x 8 ≡ onto doc at 8 0
  eight_value d =
      value_of doc at x 0 (λ j l. absurd (let z : ⊥ = omega arith in z)) 8 8 (omega arith)
      (λ j l. ap (lane x) (zero-add j) ∙ here 8 (omega arith) d j l)

  -- the first m digits, shifted down
  module _ (hx : x < 2 ^ 64) (m : ℕ) (hm : m ≤ 8) (d : AllDigits doc at (at + m)) where
    down : x / 2 ^ (64 - 8 * m) ≡ x / 2 ^ (8 * (8 - m))
    down = ap (λ (s : ℕ). x / 2 ^ s) (let q : 64 - 8 * m ≡ 8 * (8 - m) = omega arith in q)

    shifted_out : (j : ℕ) → j < 8 - m → lane (x / 2 ^ (64 - 8 * m)) j ≡ 0
    shifted_out j l = ap (λ (y : ℕ). lane y j) down ∙ lane_shr_out x (8 - m) j hx l (omega arith)

    shifted_down : (j : ℕ) → j < m → lane (x / 2 ^ (64 - 8 * m)) (8 - m + j) ≡ get_or doc (at + j) 0 - 48
    shifted_down j l =
        ap (λ (y : ℕ). lane y (8 - m + j)) down
        ∙ lane_shr x (8 - m) (8 - m + j) (omega arith) (omega arith)
        ∙ ap (lane x) (let q : 8 - m + j - (8 - m) ≡ j = omega arith in q)
        ∙ here m hm d j l

    pub first_small : (j : ℕ) → j < 8 → lane (x / 2 ^ (64 - 8 * m)) j < 10
    first_small j l = go (dec_lt j (8 - m))
      where
        go : Dec (j < 8 - m) → lane (x / 2 ^ (64 - 8 * m)) j < 10
        go (yes b) = omega (arith, shifted_out j b)
        go (no b) =
            let k : j - (8 - m) < m = omega arith in
            let q : 8 - m + (j - (8 - m)) ≡ j = omega arith in
            omega (arith, ap (lane (x / 2 ^ (64 - 8 * m))) (sym q) ∙ shifted_down (j - (8 - m)) k, value_small m (j - (8 - m)) k d)

    pub first_value : lanes_value (x / 2 ^ (64 - 8 * m)) 8 ≡ onto doc at m 0
    first_value =
        ap (lanes_value (x / 2 ^ (64 - 8 * m))) (let q : 8 ≡ 8 - m + m = omega arith in q)
        ∙ value_of doc at (x / 2 ^ (64 - 8 * m)) (8 - m) shifted_out m m (le_refl m) shifted_down

-- up to eight digits
module _ {doc : Bytes} {at m x c : ℕ} (d : AllDigits doc at (at + m)) (v : DigitLanes doc at x) (hx : x < 2 ^ 64) (h : m ≤ 8)
    (l : c < 10 ^ (18 - m)) where
  pub short_small : (j : ℕ) → j < 8 → lane (x / 2 ^ (64 - 8 * m)) j < 10
  short_small = first_small v hx m h d

  module _ {p : ℕ} (f : p ≡ 10 ^ m) where
    module _ {r : ℕ} (g : r ≡ lanes_value (x / 2 ^ (64 - 8 * m)) 8) where
      pub short_fit : c * p + r < 2 ^ 64
      short_fit = rw f (omega (arith, many_fit d (omega arith) l (g ∙ first_value v hx m h d)))

      pub short_grown : c * p + r ≡ c * 10 ^ m + onto doc at m 0
      short_grown = ap₂ (λ (k n : ℕ). c * k + n) f (g ∙ first_value v hx m h d)

pub short_room : {doc : Bytes} {at m c p : ℕ} → AllDigits doc at (at + m) → m ≤ 8 → c < 10 ^ (18 - m) → p ≡ 10 ^ m → c * p < 2 ^ 64
short_room d h l f = rw f (omega (arith, many_room d (omega arith) l))

-- as many of up to sixteen digits as come first
module _ {n m : ℕ} (f : FirstCount n m) (pos : 0 < n) (h : n ≤ 16) where
  bounds : (0 < m) × (m ≤ 8) × (m ≤ n)
  bounds = go (dec_lt 8 n)
    where
      go : Dec (8 < n) → (0 < m) × (m ≤ 8) × (m ≤ n)
      go (yes l) = let e = f.part l in (omega arith, omega arith, omega arith)
      go (no l) = let e = f.all (omega arith) in (omega arith, omega arith, omega arith)

  pub first_ready
      : {doc : Bytes} {at c : ℕ} (end : ℕ) → n ≡ end - at → HasRoom doc at n c → AllDigits doc at end
      → (0 < m) × (m ≤ 8) × HasRoom doc at m c × AllDigits doc at (at + m)
  first_ready end e room d =
      let b = bounds in (
        b.0,
        b.1,
        record { few = omega (arith, b.1); word = room.word; below = lt_of_lt_of_le room.below (pow-le-pow_right (omega arith) (omega (arith, b.2))) },
        digits_front (omega arith) (omega (arith, b.2, d.behind)) d,
      )

-- a coefficient with up to sixteen digits, of which m come first
module _ {doc : Bytes} {at c c₁ : ℕ} (end m : ℕ) (d : AllDigits doc at end) (h : end - at ≤ 16) (l : c < 10 ^ (18 - (end - at)))
    (e : c₁ ≡ c * 10 ^ m + onto doc at m 0) where
  -- these are all
  pub first_taken : m ≡ end - at → Taken doc at (end - at) c c₁
  first_taken q =
      let all : at + (end - at) ≡ end = omega (arith, d.behind) in
      rw (e, q) (taken_many {m = end - at} (rw all d) (omega arith) l refl)

  -- eight are left
  module _ (q : m + 8 ≡ end - at) where
    front : AllDigits doc at (at + m)
    front = digits_front (omega arith) (omega arith) d

    last : AllDigits doc (at + m) (at + m + 8)
    last = let same : at + m + 8 ≡ end = omega (arith, d.behind) in rw same (digits_back (omega arith) (omega arith) d)

    ten : 18 - (end - at) ≡ 10 - m
    ten = omega arith

    below : c₁ < 10000000000
    below = rw e (grown_small 10 front (omega arith) (rw ten at l))

    pub last_within : at + m + 8 ≤ length doc
    last_within = last.within

    pub last_room : c₁ * 100000000 < 2 ^ 64
    last_room = omega (arith, below)

    module _ {x : ℕ} (v : DigitLanes doc (at + m) x) where
      pub last_small : (j : ℕ) → j < 8 → lane x j < 10
      last_small = eight_small v last

      module _ {r : ℕ} (g : r ≡ lanes_value x 8) where
        pub last_fit : c₁ * 100000000 + r < 2 ^ 64
        last_fit = omega (arith, many_fit {m = 8} last (omega arith) below (g ∙ eight_value v last))

        pub last_taken : Taken doc at (end - at) c (c₁ * 100000000 + r)
        last_taken =
            let eight : end - (at + m) ≡ 8 = omega arith in
            taken_join {m = m} {c₁ = c₁} (omega arith)
            (rw e (taken_many {m = m} front (omega arith) small refl))
            (rw eight (taken_many {m = 8} last (omega arith) below (g ∙ eight_value v last)))
          where
            small : c < 10 ^ (18 - m)
            small = lt_of_lt_of_le l (pow-le-pow_right (omega arith) (omega arith))
