-- The groups of a coefficient: by its last eight digits and what is before them; and eight digits from a place on, of two words
-- joined. Assumes nothing.
use Prim.Native.Nat.{ℕ, zero, suc, ◌+◌, ◌-◌, ◌*◌, ◌/◌, ◌%◌, ◌^◌, ◌≤◌, ◌<◌, min}
use native.Mathlib.Nat.{add-zero, div-eq_of_lt, div-one, div-div-eq-div-mul, mul_assoc, mul-mod_left, pow-suc}
use native.Mathlib.Omega.{arith}
use mathlib.Core.Path.{◌≡◌, refl, sym, ap, ap₂, ◌∙◌, subst, subst₂}
use lib.Bits.{bit_or, or_shifted_r}
use lib.Pow.{pow-add, shl-shr, shr_lt, shr-shr, mod-pow-add, mod-mod-pow, field}
use Rattle.number.specs.DecimalLaws.{quotient_zero, quotient_suc}
use Rattle.number.specs.NumberGroups.{Lows, GroupsOf, LowsFrom}
use Rattle.number.specs.declared.groups.Groups.{Groups}

-- ---- the last digits of a number

-- do not depend on those before them
lows_more : (m q w n : ℕ) → Lows m w n → Lows m w (q * 10 ^ m + n)
lows_more zero q w n l = tt
lows_more (suc m) q w n l =
    let up : q * 10 ^ suc m ≡ q * 10 ^ m * 10 = ap (λ (x : ℕ). q * x) (pow-suc 10 m) ∙ sym (mul_assoc q (10 ^ m) 10) in
    let rest : q * 10 ^ m + n / 10 ≡ (q * 10 ^ suc m + n) / 10 = omega (arith, up) in
    (omega (arith, up, l.0), subst (Lows m (w / 256)) rest (lows_more m q (w / 256) (n / 10) l.1))

-- eight digits, and what is before them
lows_behind : (w c q r : ℕ) → c ≡ q * 10 ^ 8 + r → Lows 8 w r → Lows 8 w c
lows_behind w c q r e l = subst (Lows 8 w) (sym e) (lows_more 8 q w r l)

no_digits : Lows 8 0x3030303030303030 0
no_digits = (refl, (refl, (refl, (refl, (refl, (refl, (refl, (refl, tt))))))))

none_before : (p c : ℕ) → c < p → Lows 8 0x3030303030303030 (c / p)
none_before p c h = subst (Lows 8 0x3030303030303030) (sym (div-eq_of_lt h)) no_digits

-- ---- the groups

pub one_group : (c w : ℕ) → c < 10 ^ 8 → Lows 8 w c → GroupsOf c (record { low = w; middle = 0x3030303030303030; high = 0x3030303030303030 })
one_group c w h l = record { low = l; middle = none_before (10 ^ 8) c h; high = none_before (10 ^ 16) c (omega arith) }

module _ (c q p : ℕ) (e : q ≡ c / 10 ^ 8) (f : p ≡ 10 ^ 8) where
  pub eight_least : q * p ≤ c
  eight_least = rw (e, f) (omega arith)

  pub eight_left : c - q * p < 10 ^ 8
  eight_left = rw (e, f) (omega arith)

  pub two_groups_are
      : (v w : ℕ) → c < 10 ^ 16 → Lows 8 w (c - q * p) → Lows 8 v q
      → GroupsOf c (record { low = w; middle = v; high = 0x3030303030303030 })
  two_groups_are v w h l m =
      record {
        low = lows_behind w c q (c - q * p) (omega (arith, eight_least, ap (λ (t : ℕ). q * t) f)) l;
        middle = subst (Lows 8 v) e m;
        high = none_before (10 ^ 16) c h;
      }

pub sixteen_few : (c q : ℕ) → q ≡ c / 10 ^ 16 → c < 10 ^ 18 → q < 10 ^ 2
sixteen_few c q e h = omega arith

module _ (c q p : ℕ) (e : q ≡ c / 10 ^ 16) (f : p ≡ 10 ^ 16) where
  pub sixteen_least : q * p ≤ c
  sixteen_least = rw (e, f) (omega arith)

  pub sixteen_left : c - q * p < 10 ^ 16
  sixteen_left = rw (e, f) (omega arith)

  whole : c ≡ q * 10 ^ 16 + (c - q * p)
  whole = omega (arith, sixteen_least, ap (λ (t : ℕ). q * t) f)

  pub three_groups_are
      : (g : Groups) (v : ℕ) → GroupsOf (c - q * p) g → Lows 8 v q → GroupsOf c (record { low = g.low; middle = g.middle; high = v })
  three_groups_are g v b h =
      record {
        low = lows_behind g.low c (q * 10 ^ 8) (c - q * p) (omega (arith, whole)) b.low;
        middle = lows_behind g.middle (c / 10 ^ 8) q ((c - q * p) / 10 ^ 8) (omega (arith, whole)) b.middle;
        high = subst (Lows 8 v) e h;
      }

-- ---- the digits from a place on

-- dividing by one power after the other
pub quotient_add : (a b n : ℕ) → n / 10 ^ a / 10 ^ b ≡ n / 10 ^ (a + b)
quotient_add a b n = div-div-eq-div-mul n (10 ^ a) (10 ^ b) ∙ ap (λ (t : ℕ). n / t) (sym (pow-add 10 a b))

-- so place k is k - p places before place p
place_behind : (p k c : ℕ) → p ≤ k → c / 10 ^ p / 10 ^ (k - p) ≡ c / 10 ^ k
place_behind p k c h = quotient_add p (k - p) c ∙ ap (λ (j : ℕ). c / 10 ^ j) (let q : p + (k - p) ≡ k = omega arith in q)

-- without the lowest i bytes, and the last i digits
lows_drop : (i m k w n : ℕ) → k ≡ m + i → Lows k w n → Lows m (w / 2 ^ (8 * i)) (n / 10 ^ i)
lows_drop zero m k w n e l =
    subst (λ (j : ℕ). Lows j (w / 1) (n / 1)) (let q : k ≡ m = omega arith in q) (subst₂ (Lows k) (sym (div-one w)) (sym (div-one n)) l)
lows_drop (suc i) m zero w n e l = absurd (let z : ⊥ = omega arith in z)
lows_drop (suc i) m (suc k) w n e l =
    subst₂ (Lows m) bytes (sym (quotient_suc i n)) (lows_drop i m k (w / 256) (n / 10) (omega arith) l.1)
  where
    bytes : w / 256 / 2 ^ (8 * i) ≡ w / 2 ^ (8 * suc i)
    bytes = shr-shr w 8 (8 * i) ∙ ap (λ (s : ℕ). w / 2 ^ s) (let q : 8 + 8 * i ≡ 8 * suc i = omega arith in q)

-- fewer digits
lows_fewer : (k m w n : ℕ) → k ≤ m → Lows m w n → Lows k w n
lows_fewer zero m w n h l = tt
lows_fewer (suc k) zero w n h l = absurd (let z : ⊥ = omega arith in z)
lows_fewer (suc k) (suc m) w n h l = (l.0, lows_fewer k m (w / 256) (n / 10) (omega arith) l.1)

-- the bytes above the digits do not count
lows_front : (k w n : ℕ) → Lows k w n → Lows k (w % 2 ^ (8 * k)) n
lows_front zero w n l = tt
lows_front (suc k) w n l =
    (ap (λ (x : ℕ). x % 256) cut ∙ mod-mod-pow w (8 * k) 8 ∙ l.0, subst (λ (x : ℕ). Lows k x (n / 10)) (sym rest) (lows_front k (w / 256) (n / 10) l.1))
  where
    cut : w % 2 ^ (8 * suc k) ≡ w % 2 ^ (8 * k + 8)
    cut = ap (λ (s : ℕ). w % 2 ^ s) (let q : 8 * suc k ≡ 8 * k + 8 = omega arith in q)

    rest : w % 2 ^ (8 * suc k) / 256 ≡ w / 256 % 2 ^ (8 * k)
    rest = ap (λ (x : ℕ). x / 256) cut ∙ field w (8 * k) 8

-- j bytes, and m more above them
lows_both
    : (j m k a b n : ℕ) → k ≡ m + j → b < 2 ^ (8 * j) → Lows j b n → Lows m a (n / 10 ^ j) → Lows k (a * 2 ^ (8 * j) + b) n
lows_both zero m k a b n e h l f =
    let none : a * 1 + b ≡ a = omega arith in
    subst (λ (i : ℕ). Lows i (a * 1 + b) n) (let q : m ≡ k = omega arith in q)
    (subst₂ (Lows m) (sym none) (div-one n) f)
lows_both (suc j) m zero a b n e h l f = absurd (let z : ⊥ = omega arith in z)
lows_both (suc j) m (suc k) a b n e h l f =
    let less : b / 256 < 2 ^ (8 * j) = omega (arith, pow) in
    let rest : a * 2 ^ (8 * j) + b / 256 ≡ (a * 2 ^ (8 * suc j) + b) / 256 = omega (arith, up) in (
      omega (arith, up, l.0),
      subst (λ (x : ℕ). Lows k x (n / 10)) rest
          (lows_both j m k a (b / 256) (n / 10) (omega arith) less l.1 (subst (Lows m a) (quotient_suc j n) f)),
    )
  where
    pow : 2 ^ (8 * suc j) ≡ 2 ^ (8 * j) * 256
    pow = ap (λ (s : ℕ). 2 ^ s) (let q : 8 * suc j ≡ 8 * j + 8 = omega arith in q) ∙ pow-add 2 (8 * j) 8

    up : a * 2 ^ (8 * suc j) ≡ a * 2 ^ (8 * j) * 256
    up = ap (λ (x : ℕ). a * x) pow ∙ sym (mul_assoc a (2 ^ (8 * j)) 256)

-- ---- two words joined

-- what a shift leaves of a word
shl_mod : (b t s : ℕ) → b * 2 ^ s % 2 ^ (t + s) ≡ b % 2 ^ t * 2 ^ s
shl_mod b t s =
    mod-pow-add (b * 2 ^ s) t s
    ∙ ap₂ (λ (x y : ℕ). x % 2 ^ t * 2 ^ s + y) (shl-shr b s) (mul-mod_left b (2 ^ s))
    ∙ add-zero (b % 2 ^ t * 2 ^ s)

module _ (a b k : ℕ) (h : k ≤ 8) (fits : a < 2 ^ 64) where
  -- what is left of the first word
  below : a / 2 ^ (8 * k) < 2 ^ (8 * (8 - k))
  below = shr_lt (8 * (8 - k)) (8 * k) (subst (λ (s : ℕ). a < 2 ^ s) (let q : 64 ≡ 8 * (8 - k) + 8 * k = omega arith in q) fits)

  -- and the lowest bytes of the second above it
  joined : bit_or (a / 2 ^ (8 * k)) (b * 2 ^ (64 - 8 * k) % 2 ^ 64) ≡ b % 2 ^ (8 * k) * 2 ^ (8 * (8 - k)) + a / 2 ^ (8 * k)
  joined =
      ap₂ (λ (s t : ℕ). bit_or (a / 2 ^ (8 * k)) (b * 2 ^ s % 2 ^ t))
      (let q : 64 - 8 * k ≡ 8 * (8 - k) = omega arith in q)
      (let q : 64 ≡ 8 * k + 8 * (8 - k) = omega arith in q)
      ∙ ap (bit_or (a / 2 ^ (8 * k))) (shl_mod b (8 * k) (8 * (8 - k)))
      ∙ or_shifted_r (b % 2 ^ (8 * k)) (8 * (8 - k)) (a / 2 ^ (8 * k)) below

  lows_joined : (n : ℕ) → Lows 8 a n → Lows 8 b (n / 10 ^ 8) → Lows 8 (bit_or (a / 2 ^ (8 * k)) (b * 2 ^ (64 - 8 * k) % 2 ^ 64)) (n / 10 ^ k)
  lows_joined n x y =
      subst (λ (w : ℕ). Lows 8 w (n / 10 ^ k)) (sym joined)
      (lows_both (8 - k) k 8 (b % 2 ^ (8 * k)) (a / 2 ^ (8 * k)) (n / 10 ^ k) (omega arith) below
      (lows_drop k (8 - k) 8 a n (omega arith) x)
      (subst (Lows k (b % 2 ^ (8 * k))) (sym (place_behind k 8 n h)) (lows_front k b (n / 10 ^ 8) (lows_fewer k 8 b (n / 10 ^ 8) h y))))

-- ---- eight digits from a place on

-- all eight are there
eight_there : (k w c : ℕ) → k ≤ 16 → Lows 8 w (c / 10 ^ k) → LowsFrom k w c
eight_there k w c h l = record { lows = subst (λ (m : ℕ). Lows m w (c / 10 ^ k)) (let q : 8 ≡ min 8 (24 - k) = omega arith in q) l }

module _ {c : ℕ} {g : Groups} (b : GroupsOf c g) (k : ℕ) where
  pub from_low : k ≡ 0 → LowsFrom k g.low c
  from_low e = rw e (eight_there 0 g.low c (omega arith) (subst (Lows 8 g.low) (sym (quotient_zero c)) b.low))

  pub from_middle : k ≡ 8 → LowsFrom k g.middle c
  from_middle e = rw e (eight_there 8 g.middle c (omega arith) b.middle)

  pub from_low_middle : k < 8 → g.low < 2 ^ 64 → LowsFrom k (bit_or (g.low / 2 ^ (8 * k)) (g.middle * 2 ^ (64 - 8 * k) % 2 ^ 64)) c
  from_low_middle h fits =
      eight_there k (bit_or (g.low / 2 ^ (8 * k)) (g.middle * 2 ^ (64 - 8 * k) % 2 ^ 64)) c (omega arith)
      (lows_joined g.low g.middle k (omega arith) fits c b.low b.middle)

  pub from_middle_high
      : 8 ≤ k → k < 16 → g.middle < 2 ^ 64
      → LowsFrom k (bit_or (g.middle / 2 ^ (8 * k - 64)) (g.high * 2 ^ (128 - 8 * k) % 2 ^ 64)) c
  from_middle_high l h fits =
      subst₂ (λ (s t : ℕ). LowsFrom k (bit_or (g.middle / 2 ^ s) (g.high * 2 ^ t % 2 ^ 64)) c)
      (let q : 8 * (k - 8) ≡ 8 * k - 64 = omega arith in q)
      (let q : 64 - 8 * (k - 8) ≡ 128 - 8 * k = omega arith in q)
      (eight_there k word c (omega arith)
      (subst (Lows 8 word) (place_behind 8 k c l)
      (lows_joined g.middle g.high (k - 8) (omega arith) fits (c / 10 ^ 8) b.middle (subst (Lows 8 g.high) (sym (quotient_add 8 8 c)) b.high))))
    where
      word : ℕ
      word = bit_or (g.middle / 2 ^ (8 * (k - 8))) (g.high * 2 ^ (64 - 8 * (k - 8)) % 2 ^ 64)

  pub from_high : 16 ≤ k → k < 24 → LowsFrom k (g.high / 2 ^ (8 * k - 128)) c
  from_high l h =
      record {
        lows = subst₂ (λ (s n : ℕ). Lows (min 8 (24 - k)) (g.high / 2 ^ s) n) (let q : 8 * (k - 16) ≡ 8 * k - 128 = omega arith in q)
            (place_behind 16 k c l)
            (lows_drop (k - 16) (min 8 (24 - k)) 8 g.high (c / 10 ^ 16) (omega arith) b.high);
      }

-- as many of them as are asked for
pub from_fewer : {k w c : ℕ} (m : ℕ) → m ≤ 8 → k + m ≤ 24 → LowsFrom k w c → Lows m w (c / 10 ^ k)
from_fewer {k} {w} {c} m h l f = lows_fewer m (min 8 (24 - k)) w (c / 10 ^ k) (omega arith) f.lows
