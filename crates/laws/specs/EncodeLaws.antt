-- The octets that RFC 3629 gives a character number, and those that `encode` (definitions' Utf8) writes, are the same. Assumes
-- nothing.
use Rattle.std.specs.Prelude.{ℕ, suc, ◌+◌, ◌-◌, ◌*◌, ◌/◌, ◌%◌, ◌≤◌, ◌<◌, ◌≡◌, ◌⊎◌, true, false, [], ◌∷◌, ltb}
use Rattle.std.proofs.Common.{sym, subst, inl, inr, arith}
use Rattle.definitions.specs.Bytes.{Bytes}
use Rattle.definitions.specs.Utf8.{encode}
use Rattle.laws.specs.Ranges.{lt_or_le, le-leb, gt_leb}
use Rattle.laws.specs.Rfc3629.{In, UTF8Tail, UTF82, UTF83, UTF84, utf8_2, utf8_3a, utf8_3b, utf8_3c, utf8_3d, utf8_4a, utf8_4b}
use Rattle.laws.specs.Rfc3629.{utf8_4c, Encodes, one_octet, two_octets, three_octets, four_octets}

-- ---- encode, by the length of what it writes

pub encode_1 : (c : ℕ) → c < 0x80 → encode c ≡ c ∷ []
unfolding encode
encode_1 c l = let e : ltb c 0x80 ≡ true = le-leb l in rw (e, encode)

pub encode_2 : (c : ℕ) → 0x80 ≤ c → c < 0x800 → encode c ≡ (0xC0 + c / 64) ∷ (0x80 + c % 64) ∷ []
unfolding encode
encode_2 c k l =
    let e : ltb c 0x80 ≡ false = gt_leb (let z : 0x80 < suc c = omega arith in z) in
    let f : ltb c 0x800 ≡ true = le-leb l in
    rw (e, f, encode)

pub encode_3
    : (c : ℕ) → 0x800 ≤ c → c < 0x10000
    → encode c ≡ (0xE0 + c / 4096) ∷ (0x80 + c / 64 % 64) ∷ (0x80 + c % 64) ∷ []
unfolding encode
encode_3 c k l =
    let e : ltb c 0x80 ≡ false = gt_leb (let z : 0x80 < suc c = omega arith in z) in
    let f : ltb c 0x800 ≡ false = gt_leb (let z : 0x800 < suc c = omega arith in z) in
    let g : ltb c 0x10000 ≡ true = le-leb l in
    rw (e, f, g, encode)

pub encode_4
    : (c : ℕ) → 0x10000 ≤ c
    → encode c ≡ (0xF0 + c / 262144) ∷ (0x80 + c / 4096 % 64) ∷ (0x80 + c / 64 % 64) ∷ (0x80 + c % 64) ∷ []
unfolding encode
encode_4 c k =
    let e : ltb c 0x80 ≡ false = gt_leb (let z : 0x80 < suc c = omega arith in z) in
    let f : ltb c 0x800 ≡ false = gt_leb (let z : 0x800 < suc c = omega arith in z) in
    let g : ltb c 0x10000 ≡ false = gt_leb (let z : 0x10000 < suc c = omega arith in z) in
    rw (e, f, g, encode)

-- ---- what encode writes is the number's octets

tail_in : (n : ℕ) → In 0x80 0xBF (0x80 + n % 64)
tail_in n = omega arith

two_of : (n : ℕ) → 0x80 ≤ n → n < 0x800 → Encodes n ((0xC0 + n / 64) ∷ (0x80 + n % 64) ∷ [])
two_of n k l =
    let p : In 0xC2 0xDF (0xC0 + n / 64) = omega arith in
    two_octets (utf8_2 p (tail_in n)) (omega arith)

three_of
    : (n : ℕ) → 0x800 ≤ n → n < 0x10000 → (n < 0xD800) ⊎ (0xDFFF < n)
    → Encodes n ((0xE0 + n / 4096) ∷ (0x80 + n / 64 % 64) ∷ (0x80 + n % 64) ∷ [])
three_of n k l o = go o (lt_or_le n 0x1000) (lt_or_le n 0xD000)
  where
    bits : n ≡ (0xE0 + n / 4096 - 0xE0) * 4096 + (0x80 + n / 64 % 64 - 0x80) * 64 + (0x80 + n % 64 - 0x80)
    bits = omega arith

    go
        : (n < 0xD800) ⊎ (0xDFFF < n) → (n < 0x1000) ⊎ (0x1000 ≤ n) → (n < 0xD000) ⊎ (0xD000 ≤ n)
        → Encodes n ((0xE0 + n / 4096) ∷ (0x80 + n / 64 % 64) ∷ (0x80 + n % 64) ∷ [])
    go (inl s) (inl a) x =
        let p : In 0xE0 0xE0 (0xE0 + n / 4096) = omega arith in
        let q : In 0xA0 0xBF (0x80 + n / 64 % 64) = omega arith in
        three_octets (utf8_3a p q (tail_in n)) bits
    go (inl s) (inr a) (inl x) =
        let p : In 0xE1 0xEC (0xE0 + n / 4096) = omega arith in
        three_octets (utf8_3b p (tail_in (n / 64)) (tail_in n)) bits
    go (inl s) (inr a) (inr x) =
        let p : In 0xED 0xED (0xE0 + n / 4096) = omega arith in
        let q : In 0x80 0x9F (0x80 + n / 64 % 64) = omega arith in
        three_octets (utf8_3c p q (tail_in n)) bits
    go (inr s) a x =
        let p : In 0xEE 0xEF (0xE0 + n / 4096) = omega arith in
        three_octets (utf8_3d p (tail_in (n / 64)) (tail_in n)) bits

four_of
    : (n : ℕ) → 0x10000 ≤ n → n < 0x110000
    → Encodes n ((0xF0 + n / 262144) ∷ (0x80 + n / 4096 % 64) ∷ (0x80 + n / 64 % 64) ∷ (0x80 + n % 64) ∷ [])
four_of n k l = go (lt_or_le n 0x40000) (lt_or_le n 0x100000)
  where
    sum
        : (n p q a b c d : ℕ) → n ≡ p * 64 + d → p ≡ q * 64 + c → q ≡ a * 64 + b
        → n ≡ (0xF0 + a - 0xF0) * 262144 + (0x80 + b - 0x80) * 4096 + (0x80 + c - 0x80) * 64 + (0x80 + d - 0x80)
    sum n p q a b c d e f g = omega arith

    bits
        : n
        ≡ (0xF0 + n / 262144 - 0xF0) * 262144 + (0x80 + n / 4096 % 64 - 0x80) * 4096 + (0x80 + n / 64 % 64 - 0x80) * 64 + (0x80 + n % 64 - 0x80)
    bits =
        let e : n / 64 ≡ n / 4096 * 64 + n / 64 % 64 = omega arith in
        let f : n / 4096 ≡ n / 262144 * 64 + n / 4096 % 64 = omega arith in
        let g : n ≡ n / 64 * 64 + n % 64 = omega arith in
        sum n (n / 64) (n / 4096) (n / 262144) (n / 4096 % 64) (n / 64 % 64) (n % 64) g e f

    go
        : (n < 0x40000) ⊎ (0x40000 ≤ n) → (n < 0x100000) ⊎ (0x100000 ≤ n)
        → Encodes n ((0xF0 + n / 262144) ∷ (0x80 + n / 4096 % 64) ∷ (0x80 + n / 64 % 64) ∷ (0x80 + n % 64) ∷ [])
    go (inl a) x =
        let p : In 0xF0 0xF0 (0xF0 + n / 262144) = omega arith in
        let q : In 0x90 0xBF (0x80 + n / 4096 % 64) = omega arith in
        four_octets (utf8_4a p q (tail_in (n / 64)) (tail_in n)) bits
    go (inr a) (inl x) =
        let p : In 0xF1 0xF3 (0xF0 + n / 262144) = omega arith in
        four_octets (utf8_4b p (tail_in (n / 4096)) (tail_in (n / 64)) (tail_in n)) bits
    go (inr a) (inr x) =
        let p : In 0xF4 0xF4 (0xF0 + n / 262144) = omega arith in
        let q : In 0x80 0x8F (0x80 + n / 4096 % 64) = omega arith in
        four_octets (utf8_4c p q (tail_in (n / 64)) (tail_in n)) bits

-- a number up to 10FFFF that is no surrogate
pub encode_encodes : (c : ℕ) → c < 0x110000 → (c < 0xD800) ⊎ (0xDFFF < c) → Encodes c (encode c)
encode_encodes c l o = go (lt_or_le c 0x80) (lt_or_le c 0x800) (lt_or_le c 0x10000)
  where
    go
        : (c < 0x80) ⊎ (0x80 ≤ c) → (c < 0x800) ⊎ (0x800 ≤ c) → (c < 0x10000) ⊎ (0x10000 ≤ c)
        → Encodes c (encode c)
    go (inl a) x y = subst (Encodes c) (sym (encode_1 c a)) (one_octet (omega arith))
    go (inr a) (inl x) y = subst (Encodes c) (sym (encode_2 c a x)) (two_of c a x)
    go (inr a) (inr x) (inl y) = subst (Encodes c) (sym (encode_3 c x y)) (three_of c x y o)
    go (inr a) (inr x) (inr y) = subst (Encodes c) (sym (encode_4 c y)) (four_of c y l)

-- ---- a number's octets are what encode writes

two_same
    : (n a b : ℕ) → In 0xC2 0xDF a → UTF8Tail b → n ≡ (a - 0xC0) * 64 + (b - 0x80) → a ∷ b ∷ [] ≡ encode n
two_same n a b i j e =
    let p : 0xC0 + n / 64 ≡ a = omega arith in
    let q : 0x80 + n % 64 ≡ b = omega arith in
    rw (encode_2 n (omega arith) (omega arith), p, q)

three_same
    : (n a b c : ℕ) → In 0xE0 0xEF a → UTF8Tail b → UTF8Tail c → 0x800 ≤ n
    → n ≡ (a - 0xE0) * 4096 + (b - 0x80) * 64 + (c - 0x80) → a ∷ b ∷ c ∷ [] ≡ encode n
three_same n a b c i j k l e =
    let p : 0xE0 + n / 4096 ≡ a = omega arith in
    let q : 0x80 + n / 64 % 64 ≡ b = omega arith in
    let r : 0x80 + n % 64 ≡ c = omega arith in
    rw (encode_3 n l (omega arith), p, q, r)

four_same
    : (n a b c d : ℕ) → In 0xF0 0xF4 a → UTF8Tail b → UTF8Tail c → UTF8Tail d → 0x10000 ≤ n
    → n ≡ (a - 0xF0) * 262144 + (b - 0x80) * 4096 + (c - 0x80) * 64 + (d - 0x80) → a ∷ b ∷ c ∷ d ∷ [] ≡ encode n
four_same n a b c d i j k m l e =
    let p : 0xF0 + n / 262144 ≡ a = omega arith in
    let q : 0x80 + n / 4096 % 64 ≡ b = omega arith in
    let r : 0x80 + n / 64 % 64 ≡ c = omega arith in
    let s : 0x80 + n % 64 ≡ d = omega arith in
    rw (encode_4 n l, p, q, r, s)

of_two : (c a b : ℕ) {t r : Bytes} → UTF82 (a ∷ b ∷ []) t r → c ≡ (a - 0xC0) * 64 + (b - 0x80) → a ∷ b ∷ [] ≡ encode c
of_two c a b (utf8_2 i j) e = two_same c a b i j e

of_three
    : (c a b d : ℕ) {t r : Bytes} → UTF83 (a ∷ b ∷ d ∷ []) t r → c ≡ (a - 0xE0) * 4096 + (b - 0x80) * 64 + (d - 0x80)
    → a ∷ b ∷ d ∷ [] ≡ encode c
of_three c a b d (utf8_3a i j k) e = three_same c a b d (omega arith) (omega arith) k (omega arith) e
of_three c a b d (utf8_3b i j k) e = three_same c a b d (omega arith) j k (omega arith) e
of_three c a b d (utf8_3c i j k) e = three_same c a b d (omega arith) (omega arith) k (omega arith) e
of_three c a b d (utf8_3d i j k) e = three_same c a b d (omega arith) j k (omega arith) e

of_four
    : (c a b x d : ℕ) {t r : Bytes} → UTF84 (a ∷ b ∷ x ∷ d ∷ []) t r
    → c ≡ (a - 0xF0) * 262144 + (b - 0x80) * 4096 + (x - 0x80) * 64 + (d - 0x80) → a ∷ b ∷ x ∷ d ∷ [] ≡ encode c
of_four c a b x d (utf8_4a i j k l) e = four_same c a b x d (omega arith) (omega arith) k l (omega arith) e
of_four c a b x d (utf8_4b i j k l) e = four_same c a b x d (omega arith) j k l (omega arith) e
of_four c a b x d (utf8_4c i j k l) e = four_same c a b x d (omega arith) (omega arith) k l (omega arith) e

pub encodes_encode : {c : ℕ} {t : Bytes} → Encodes c t → t ≡ encode c
encodes_encode {c} (one_octet l) = sym (encode_1 c (omega arith))
encodes_encode {c} (two_octets {a} {b} u e) = of_two c a b u e
encodes_encode {c} (three_octets {a} {b} {c = d} u e) = of_three c a b d u e
encodes_encode {c} (four_octets {a} {b} {c = x} {d} u e) = of_four c a b x d u e
