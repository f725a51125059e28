-- Writing a part at a place of a buffer, and how `write_digits`, `write_rest` and `store_eight` fill it from the right. Assumes nothing.
use Prim.Native.Nat.{ℕ, zero, suc, ◌+◌, ◌*◌, ◌/◌, ◌%◌, ◌^◌, ◌≤◌, ◌<◌}
use native.Mathlib.Nat.{add-zero, add-suc, le_refl}
use native.Mathlib.Numerals.{add-one}
use native.Mathlib.Omega.{arith}
use mathlib.Core.Path.{◌≡◌, refl, sym, ap, ap₂, ◌∙◌, subst}
use mathlib.Core.List.{[], ◌∷◌, ◌++◌, append_assoc, append-nil}
use lib.Bits.{bit_and, and_mask}
use lib.Pow.{shr-shr}
use lib.ListN.{length, get_or, take, drop, set, length-set, length-append, length-drop, take-append-drop}
use lib.Seq.{length-take-le, take-suc, take-take, take-append-le, drop_at, set_at}
use Rattle.definitions.specs.Bytes.{Bytes, bytes}
use Rattle.definitions.specs.Number.{Number}
use Rattle.definitions.specs.Plain.{decimal, last_digits, fraction, minus, plain_number}
use Rattle.number.specs.NumberGroups.{Lows}
use Rattle.number.specs.NumberWrite.{Writes, WritesNumber, written, unsigned_written}
use Rattle.number.proofs.DigitGroups.{quotient_add}
use Rattle.number.specs.DecimalLaws.{quotient_zero, quotient_suc, last_append, length_last, length_fraction, length_plain, decimal_last}

-- ---- a part at a place

pub written_none : (o : Bytes) (at : ℕ) → written o at [] ≡ o
written_none o at = rw (add-zero at, append-nil (take at o)) (take-append-drop at o)

pub length_written : (o : Bytes) (at : ℕ) (s : Bytes) → at + length s ≤ length o → length (written o at s) ≡ length o
length_written o at s fits =
    length-append (take at o ++ s) (drop (at + length s) o)
    ∙ ap₂ (λ (m n : ℕ). m + n) (length-append (take at o) s) (length-drop (at + length s) o)
    ∙ omega (arith, length-take-le at o (omega arith))

-- a part right before another
pub written_before
    : (o : Bytes) (at : ℕ) (s t : Bytes) → at + length s + length t ≤ length o
    → written (written o (at + length s) t) at s ≡ written o at (s ++ t)
written_before o at s t fits =
    ap₂ (λ (x y : Bytes). x ++ s ++ y)
    (ap (take at) (append_assoc head t rest)
    ∙ take-append-le at head (t ++ rest) (omega (arith, long))
    ∙ take-take at (at + length s) o (omega arith))
    (ap (drop (at + length s)) (append_assoc head t rest) ∙ drop_at head (t ++ rest) (at + length s) long)
    ∙ sym (append_assoc (take at o ++ s) t rest)
    ∙ ap₂ (λ (x y : Bytes). x ++ y) (append_assoc (take at o) s t) (ap (λ (k : ℕ). drop k o) same)
  where
    head : Bytes
    head = take (at + length s) o

    rest : Bytes
    rest = drop (at + length s + length t) o

    long : length head ≡ at + length s
    long = length-take-le (at + length s) o (omega arith)

    same : at + length s + length t ≡ at + length (s ++ t)
    same = omega (arith, length-append s t)

-- one byte right before a part
pub written_byte
    : (o : Bytes) (k : ℕ) (v : ℕ) (s : Bytes) → suc k + length s ≤ length o
    → set (written o (suc k) s) k v ≡ written o k (v ∷ s)
written_byte o k v s fits =
    ap (λ (x : Bytes). set (x ++ s ++ rest) k v) (take-suc o k 0 (omega arith))
    ∙ ap (λ (x : Bytes). set (x ++ rest) k v) (append_assoc (take k o) (get_or o k 0 ∷ []) s)
    ∙ ap (λ (x : Bytes). set x k v) (append_assoc (take k o) (get_or o k 0 ∷ s) rest)
    ∙ set_at (take k o) (get_or o k 0) (s ++ rest) v k (length-take-le k o (omega arith))
    ∙ sym (append_assoc (take k o) (v ∷ s) rest)
    ∙ ap (λ (n : ℕ). take k o ++ (v ∷ s) ++ drop n o) same
  where
    rest : Bytes
    rest = drop (suc k + length s) o

    same : suc k + length s ≡ k + suc (length s)
    same = omega arith

-- one byte
pub written_one : (o : Bytes) (k : ℕ) (v : ℕ) → k < length o → set o k v ≡ written o k (v ∷ [])
written_one o k v h =
    ap (λ (x : Bytes). set x k v) (sym (written_none o (suc k))) ∙ written_byte o k v [] (omega arith)

-- ---- digits from the right

-- the digits to come stand before those at hand, which stand at their place
pub record Filling (o : Bytes) (at count value : ℕ) (out : Bytes) (left n : ℕ) : Type 0 where
  pub after : Bytes
  pub placed : out ≡ written o (at + left) after
  pub digits : last_digits left n after ≡ last_digits count value []
  pub long : left + length after ≡ count

fills : (o : Bytes) (at count value : ℕ) → Filling o at count value o count value
fills o at count value =
    record { after = []; placed = sym (written_none o (at + count)); digits = refl; long = omega arith }

module _ {o : Bytes} {at count value : ℕ} {out : Bytes} {n : ℕ} where
  fills_on
      : {k b : ℕ} → at + count ≤ length o → Filling o at count value out (suc k) n → b ≡ 48 + n % 10
      → Filling o at count value (set out (at + k) b) k (n / 10)
  unfolding last_digits
  fills_on {k} {b} fits f e =
      record {
        after = b ∷ f.after;
        placed = ap (λ (x : Bytes). set x (at + k) b) (f.placed ∙ ap (λ (j : ℕ). written o j f.after) (add-suc at k))
            ∙ written_byte o (at + k) b f.after (omega (arith, f.long));
        digits = ap (λ (x : ℕ). last_digits k (n / 10) (x ∷ f.after)) e ∙ f.digits;
        long = omega (arith, f.long);
      }

  filled : Filling o at count value out 0 n → out ≡ written o at (last_digits count value [])
  unfolding last_digits
  filled f = f.placed ∙ ap₂ (λ (j : ℕ) (x : Bytes). written o j x) (add-zero at) f.digits

-- ---- digits of a small number, one by one

-- what is left of the value has the digits to come
pub record Falling (o : Bytes) (at count value : ℕ) (out : Bytes) (left n : ℕ) : Type 0 where
  pub filling : Filling o at count value out left n
  pub rest : n / 10 ^ left ≡ value / 10 ^ count
  pub small : n < 10 ^ 8

pub falls : (o : Bytes) (at count value : ℕ) → value < 10 ^ 8 → Falling o at count value o count value
falls o at count value h = record { filling = fills o at count value; rest = refl; small = h }

module _ {o : Bytes} {at count value : ℕ} {out : Bytes} {n : ℕ} (fits : at + count ≤ length o) where
  pub falling_length : {left : ℕ} → Falling o at count value out left n → length out ≡ length o
  falling_length {left} f =
      ap length f.filling.placed ∙ length_written o (at + left) f.filling.after (omega (arith, f.filling.long))

  pub falls_on
      : {k b q : ℕ} → Falling o at count value out (suc k) n → b ≡ 48 + n % 10 → q ≡ n / 10
      → Falling o at count value (set out (at + k) b) k q
  falls_on {k} {b} {q} f e g =
      subst (Falling o at count value (set out (at + k) b) k) (sym g)
      (record {
        filling = fills_on fits f.filling e;
        rest = sym (quotient_suc k n) ∙ f.rest;
        small = omega (arith, f.small);
      })

  pub fallen : Falling o at count value out 0 n → Writes o at (last_digits count value []) out (value / 10 ^ count) n
  fallen f = record { kept = filled f.filling; rest = sym (quotient_zero n) ∙ f.rest }

-- ---- digits of a word

-- the last `left` digits of the word are to come, and those behind them are written
pub record Placing (o : Bytes) (at count x : ℕ) (out : Bytes) (left word : ℕ) : Type 0 where
  pub same : length out ≡ length o
  pub within : left ≤ count
  pub digits : (n : ℕ) → Lows count x n → (q : ℕ) × Filling o at count n out left q × Lows left word q

pub places_start : (o : Bytes) (at count x : ℕ) → Placing o at count x o count x
places_start o at count x = record { same = refl; within = le_refl count; digits = λ n l. (n, fills o at count n, l) }

module _ {o : Bytes} {at count x : ℕ} {out : Bytes} {word : ℕ} where
  pub places_on
      : {left : ℕ} → at + count ≤ length o → Placing o at count x out (suc left) word
      → Placing o at count x (set out (at + left) (bit_and word 255)) left (word / 2 ^ 8)
  places_on {left} fits p =
      record {
        same = length-set out (at + left) (bit_and word 255) ∙ p.same;
        within = omega (arith, p.within);
        digits = λ n l.
            let d = p.digits n l in
            (d.0 / 10, fills_on fits d.1 (and_mask word 8 ∙ d.2.0), d.2.1);
      }

  pub places_end : Placing o at count x out 0 word → (n : ℕ) → Lows count x n → out ≡ written o at (last_digits count n [])
  places_end p n l = filled (p.digits n l).1

-- where each byte is taken from x itself, i bytes up
module _ {o : Bytes} {at count x : ℕ} {out : Bytes} (fits : at + count ≤ length o) where
  pub places_next
      : {left : ℕ} (i : ℕ) → Placing o at count x out (suc left) (x / 2 ^ (8 * i))
      → Placing o at count x (set out (at + left) (bit_and (x / 2 ^ (8 * i)) 255)) left (x / 2 ^ (8 * suc i))
  places_next {left} i p =
      subst (Placing o at count x (set out (at + left) (bit_and (x / 2 ^ (8 * i)) 255)) left) shifted (places_on fits p)
    where
      shifted : x / 2 ^ (8 * i) / 2 ^ 8 ≡ x / 2 ^ (8 * suc i)
      shifted = shr-shr x (8 * i) 8 ∙ ap (λ (s : ℕ). x / 2 ^ s) (let q : 8 * i + 8 ≡ 8 * suc i = omega arith in q)

  pub places_last
      : (i n : ℕ) → Placing o at count x out 1 (x / 2 ^ (8 * i)) → Lows count x n
      → set out at (bit_and (x / 2 ^ (8 * i)) 255) ≡ written o at (last_digits count n [])
  places_last i n p l =
      ap (λ (k : ℕ). set out k (bit_and (x / 2 ^ (8 * i)) 255)) (sym (add-zero at)) ∙ places_end (places_next i p) n l

-- ---- digits right before others

last_split : (m k n : ℕ) (after : Bytes) → last_digits (m + k) n after ≡ last_digits m (n / 10 ^ k) (last_digits k n after)
unfolding last_digits
last_split m zero n after = ap₂ (λ (j i : ℕ). last_digits j i after) (add-zero m) (sym (quotient_zero n))
last_split m (suc k) n after =
    ap (λ (j : ℕ). last_digits j n after) (add-suc m k)
    ∙ last_split m k (n / 10) ((48 + n % 10) ∷ after)
    ∙ ap (λ (i : ℕ). last_digits m i (last_digits k (n / 10) ((48 + n % 10) ∷ after))) (sym (quotient_suc k n))

-- the last k, and then the m before them
digits_before
    : (o : Bytes) (at m k n : ℕ) → at + m + k ≤ length o
    → written (written o (at + m) (last_digits k n [])) at (last_digits m (n / 10 ^ k) []) ≡ written o at (last_digits (m + k) n [])
digits_before o at m k n fits =
    ap (λ (j : ℕ). written (written o (at + j) t) at s) (sym long)
    ∙ written_before o at s t (omega (arith, long, length_last k n []))
    ∙ ap (λ (x : Bytes). written o at x) (sym (last_split m k n [] ∙ last_append m (n / 10 ^ k) t))
  where
    s : Bytes
    s = last_digits m (n / 10 ^ k) []

    t : Bytes
    t = last_digits k n []

    long : length s ≡ m
    long = omega (arith, length_last m (n / 10 ^ k) [])

-- the same of the digits of c from a place on, where `behind` is where the m digits end, and all are `count`
pub places_before
    : (o : Bytes) (at behind from m k count c : ℕ) {o₁ o₂ : Bytes} → behind ≡ at + m → m + k ≡ count → at + count ≤ length o
    → o₁ ≡ written o behind (last_digits k (c / 10 ^ from) [])
    → o₂ ≡ written o₁ at (last_digits m (c / 10 ^ (from + k)) [])
    → o₂ ≡ written o at (last_digits count (c / 10 ^ from) [])
places_before o at behind from m k count c e f fits first second =
    second
    ∙ ap₂ (λ (y : Bytes) (n : ℕ). written y at (last_digits m n [])) first (sym (quotient_add from k c))
    ∙ ap (λ (j : ℕ). written (written o j (last_digits k (c / 10 ^ from) [])) at (last_digits m (c / 10 ^ from / 10 ^ k) [])) e
    ∙ digits_before o at m k (c / 10 ^ from) (omega arith)
    ∙ ap (λ (j : ℕ). written o at (last_digits j (c / 10 ^ from) [])) f

-- ---- a fraction

pub length_fraction_any : (k c n : ℕ) → length (fraction k c) ≡ length (fraction k n)
unfolding fraction bytes
length_fraction_any zero c n = refl
length_fraction_any (suc k) c n = ap suc (length_last (suc k) c [] ∙ sym (length_last (suc k) n []))

pub no_fraction : (o : Bytes) (at k c : ℕ) → k ≡ 0 → o ≡ written o at (fraction k c)
unfolding fraction
no_fraction o at k c e = rw e (sym (written_none o at))

pub fraction_room : (o : Bytes) (at k : ℕ) → (k ≡ 0 → ⊥) → at + length (fraction k 0) ≤ length o → at + 1 + k ≤ length o
fraction_room o at k h room = omega (arith, length_fraction k 0 h)

-- the point fits, in a buffer as long
pub point_room : (o : Bytes) (at k : ℕ) {m : ℕ} → (k ≡ 0 → ⊥) → at + length (fraction k 0) ≤ length o → m ≡ length o → at < m
point_room o at k h room e = omega (arith, fraction_room o at k h room)

-- the digits, and then the point before them
pub fraction_written
    : (o : Bytes) (at k c : ℕ) {out : Bytes} → (k ≡ 0 → ⊥) → at + 1 + k ≤ length o
    → out ≡ written o (at + 1) (last_digits k (c / 10 ^ 0) []) → set out at 46 ≡ written o at (fraction k c)
unfolding fraction bytes
fraction_written o at zero c h room w = absurd (h refl)
fraction_written o at (suc k) c h room w =
    ap (λ (x : Bytes). set x at 46)
    (w ∙ ap₂ (λ (j n : ℕ). written o j (last_digits (suc k) n [])) (add-one at) (quotient_zero c))
    ∙ written_byte o at 46 (last_digits (suc k) c []) (omega (arith, length_last (suc k) c []))

-- the same of a small number
pub no_fraction_left : (o : Bytes) (at k c : ℕ) → k ≡ 0 → Writes o at (fraction k c) o (c / 10 ^ k) c
no_fraction_left o at k c e =
    record { kept = no_fraction o at k c e; rest = sym (ap (λ (j : ℕ). c / 10 ^ j) e ∙ quotient_zero c) }

pub fraction_left
    : (o : Bytes) (at k c : ℕ) {out : Bytes} {r : ℕ} → (k ≡ 0 → ⊥) → at + 1 + k ≤ length o
    → Writes o (at + 1) (last_digits k c []) out (c / 10 ^ k) r → Writes o at (fraction k c) (set out at 46) (c / 10 ^ k) r
fraction_left o at k c h room w =
    record {
      kept = fraction_written o at k c h room (w.kept ∙ ap (λ (n : ℕ). written o (at + 1) (last_digits k n [])) (sym (quotient_zero c)));
      rest = w.rest;
    }

-- ---- a number

-- three parts, the last one first
pub written_three
    : (o : Bytes) (at : ℕ) (s t u : Bytes) → at + length s + length t + length u ≤ length o
    → written (written (written o (at + length s + length t) u) (at + length s) t) at s ≡ written o at (s ++ t ++ u)
written_three o at s t u room =
    ap (λ (x : Bytes). written x at s) (written_before o (at + length s) t u room)
    ∙ written_before o at s (t ++ u) (omega (arith, length-append t u))
    ∙ ap (λ (x : Bytes). written o at x) (sym (append_assoc s t u))

-- the integer part before a fraction, and the minus before that, m, w and f bytes long
pub number_written
    : (o : Bytes) (at : ℕ) (x : Number) {o₁ o₂ : Bytes} {m w f : ℕ}
    → at + length (plain_number x) ≤ length o
    → m ≡ length (minus x.negative) → w ≡ length (decimal (x.coefficient / 10 ^ x.scale))
    → f ≡ length (fraction x.scale x.coefficient)
    → o₁ ≡ unsigned_written o (at + m) w x.scale x.coefficient
    → o₂ ≡ written o₁ at (minus x.negative)
    → WritesNumber o at x o₂ (at + m + w + f)
unfolding plain_number
number_written o at x {o₁ = o₁} {m = m} {w = w} {f = f} room a b c first second =
    record {
      end = end;
      kept = second
          ∙ ap (λ (y : Bytes). written y at s) parts
          ∙ written_three o at s t u (omega (arith, length_plain x))
          ∙ ap (λ (k : ℕ). take at o ++ plain_number x ++ drop k o) (sym end);
    }
  where
    s : Bytes
    s = minus x.negative

    t : Bytes
    t = decimal (x.coefficient / 10 ^ x.scale)

    u : Bytes
    u = fraction x.scale x.coefficient

    end : at + m + w + f ≡ at + length (plain_number x)
    end = omega (arith, length_plain x)

    digits : last_digits w (x.coefficient / 10 ^ x.scale) [] ≡ t
    digits = ap (λ (k : ℕ). last_digits k (x.coefficient / 10 ^ x.scale) []) b ∙ sym (decimal_last (x.coefficient / 10 ^ x.scale))

    parts : o₁ ≡ written (written o (at + length s + length t) u) (at + length s) t
    parts =
        first
        ∙ ap (λ (z : Bytes). written (written o (at + m + w) u) (at + m) z) digits
        ∙ ap₂ (λ (j k : ℕ). written (written o (at + j + k) u) (at + j) t) a b
