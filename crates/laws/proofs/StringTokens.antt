-- JSON strings byte by byte (definitions' Text) and RFC 8259's `char`s: each reads what the other does. Assumes nothing.
use Rattle.std.specs.Prelude.{ℕ, zero, suc, ◌+◌, ◌*◌, ◌≤◌, ◌≡◌, refl, ◌⊎◌, true, false}
use Rattle.std.proofs.Common.{sym, ◌∙◌, ap, subst, subst₂, inl, inr, arith}
use mathlib.Core.List.{[], ◌∷◌, ◌++◌, reverse, reverse_aux, reverse_aux-reverse_aux-nil, head-eq_of_cons-eq, tail-eq_of_cons-eq}
use Rattle.std.proofs.Math.Option.{none, some}
use Rattle.definitions.specs.Bytes.{Bytes, between}
use Rattle.definitions.specs.Text.{Inside, tail, pair, pair_u, wrong, closed, text_step}
use Rattle.laws.specs.Bools.{tell}
use Rattle.laws.specs.Ranges.{between_in, between_out}
use Rattle.laws.specs.Rfc3629.{In, UTF8Octets}
use Rattle.laws.specs.Rfc8259 as Rfc
use Rattle.laws.specs.Steps.{TextSteps, text_stay, text_then}
use Rattle.laws.proofs.StringRows.{Heads, head_c2, head_e0, head_e1, head_ed, head_ee, head_f0, head_f1, head_f4}
use Rattle.laws.proofs.StringSteps.{Move, plain, head, last_tail, next_tail, backslash, short, hex, digit, high, alone}
use Rattle.laws.proofs.StringSteps.{low, pair_backslash, pair_hex, step_move, move_step, step_closed, quote_closes}
use Rattle.laws.proofs.StringSound.{chars_left}
use Rattle.laws.proofs.StringThrough.{fits_later, fits_first, fits_second, low_first, low_second, chars_through}
pub use Rattle.laws.proofs.StringUtf8.{chars_utf8}

-- ---- soundness

-- bytes stepped through up to the closing quote are the string's, and what they mean are the bytes read
pub chars_sound
    : (xs r acc : Bytes) (i : Inside) (b : ℕ) → TextSteps Inside.chars [] xs i acc → text_step i acc b ≡ closed
    → (b ≡ 0x22) × Rfc.chars (xs ++ 0x22 ∷ r) (reverse acc) (0x22 ∷ r)
chars_sound xs r acc i b f e = (k.1, subst (λ t. Rfc.chars (xs ++ 0x22 ∷ r) t (0x22 ∷ r)) back g.1)
  where
    k : (i ≡ Inside.chars) × (b ≡ 0x22)
    k = step_closed acc i b e

    g : (t : Bytes) × Rfc.chars (xs ++ 0x22 ∷ r) t (0x22 ∷ r) × (acc ≡ reverse_aux t [])
    g = chars_left (subst (λ j. TextSteps Inside.chars [] xs j acc) k.0 f) (0x22 ∷ r)

    back : g.0 ≡ reverse acc
    back = sym (ap reverse g.2 ∙ reverse_aux-reverse_aux-nil g.0 [])

-- the bytes read between characters are UTF-8
pub text_utf8 : {xs acc : Bytes} → TextSteps Inside.chars [] xs Inside.chars acc → UTF8Octets (reverse acc)
text_utf8 {xs} {acc} f = chars_utf8 (chars_sound xs [] acc Inside.chars 0x22 f (quote_closes acc)).1

-- ---- completeness

-- the grammar's characters are stepped through
pub chars_steps
    : {s t r : Bytes} → Rfc.chars s t (0x22 ∷ r)
    → (xs : Bytes) × (s ≡ xs ++ 0x22 ∷ r) × TextSteps Inside.chars [] xs Inside.chars (reverse t)
chars_steps h = chars_through [] h

-- ---- determinism

pub text_steps_det
    : {i j k : Inside} {a c d xs : Bytes} → TextSteps i a xs j c → TextSteps i a xs k d → (j ≡ k) × (c ≡ d)
text_steps_det text_stay text_stay = (refl, refl)
text_steps_det (text_then {j = x} {k = j} {c = p} {d = c} {xs} e f) (text_then {j = y} {k} {c = q} {d} e' f') =
    let u : x ≡ y = cc in
    let v : p ≡ q = cc in
    text_steps_det f (subst₂ (λ l b. TextSteps l b xs k d) (sym u) (sym v) f')

-- ---- completion

-- the places that steps lead to: a range of tails is not empty
abbrev Live : Inside → Type 0
Live Inside.chars = Unit {0}
Live (tail lo hi n) = lo ≤ hi
Live Inside.escape = Unit {0}
Live (Inside.digits o n c) = Unit {0}
Live (pair h) = Unit {0}
Live (pair_u h) = Unit {0}

heads_live : {b lo hi n : ℕ} → Heads b lo hi n → lo ≤ hi
heads_live (head_c2 i) = omega arith
heads_live (head_e0 i) = omega arith
heads_live (head_e1 i) = omega arith
heads_live (head_ed i) = omega arith
heads_live (head_ee i) = omega arith
heads_live (head_f0 i) = omega arith
heads_live (head_f1 i) = omega arith
heads_live (head_f4 i) = omega arith

move_live : {i j : Inside} {a c : Bytes} {b : ℕ} → Move i a b j c → Live j
move_live (plain i q n) = tt
move_live (head h) = heads_live h
move_live (last_tail i) = tt
move_live (next_tail i) = omega arith
move_live backslash = tt
move_live (short x) = tt
move_live hex = tt
move_live (digit x f l) = tt
move_live (high x f l i) = tt
move_live (alone x f l i) = tt
move_live (low x f l) = tt
move_live pair_backslash = tt
move_live pair_hex = tt

steps_live : {i j : Inside} {a c xs : Bytes} → TextSteps i a xs j c → Live i → Live j
steps_live text_stay l = l
steps_live (text_then e f) l = steps_live f (move_live (step_move e))

-- some bytes lead from here to between characters
abbrev Ends : Inside → Bytes → Type 0
Ends i a = (ys acc : Bytes) × TextSteps i a ys Inside.chars acc

ends_now : (a : Bytes) → Ends Inside.chars a
ends_now a = ([], a, text_stay)

ends_then : {i j : Inside} {a c : Bytes} {b : ℕ} → Move i a b j c → Ends j c → Ends i a
ends_then {b} m k = (b ∷ k.0, k.1, text_then (move_step m) k.2)

tail_ends : (n lo hi : ℕ) → lo ≤ hi → (a : Bytes) → Ends (tail lo hi n) a
tail_ends zero lo hi l a = let i : In lo hi lo = omega arith in ends_then (last_tail i) (ends_now (lo ∷ a))
tail_ends (suc n) lo hi l a =
    let i : In lo hi lo = omega arith in
    ends_then (next_tail i) (tail_ends n 0x80 0xBF (omega arith) (lo ∷ a))

-- the digits 0, D and C
zero_hex : Rfc.HEXDIG 0x30 0
zero_hex = Rfc.hex_digit {b = 0x30} (omega arith)

d_hex : Rfc.HEXDIG 0x44 0xD
d_hex = Rfc.hex_upper {b = 0x44} (omega arith)

c_hex : Rfc.HEXDIG 0x43 0xC
c_hex = Rfc.hex_upper {b = 0x43} (omega arith)

-- by digits behind a high surrogate
low_last : (h n c : ℕ) → 3 ≤ n → (a : Bytes) → Ends (Inside.digits (some h) n c) a
low_last h n c l a = ends_then (low zero_hex (fits_later (some h) n c 0 (omega arith)) l) (ends_now _)

low_third : (h c : ℕ) (a : Bytes) → Ends (Inside.digits (some h) 2 c) a
low_third h c a =
    ends_then
    (digit zero_hex (fits_later (some h) 2 c 0 (omega arith)) (omega arith))
    (low_last h 3 (c * 16 + 0) (omega arith) a)

low_next : (h c : ℕ) (a : Bytes) → Ends (Inside.digits (some h) 1 c) a
low_next h c a = ends_then (digit c_hex (low_second h c 0xC (omega arith)) (omega arith)) (low_third h (c * 16 + 0xC) a)

low_ends : (h n c : ℕ) (a : Bytes) → Ends (Inside.digits (some h) n c) a
low_ends h zero c a = ends_then (digit d_hex (low_first h c 0xD refl) (omega arith)) (low_next h (c * 16 + 0xD) a)
low_ends h (suc zero) c a = low_next h c a
low_ends h (suc (suc zero)) c a = low_third h c a
low_ends h (suc (suc (suc n))) c a = low_last h (suc (suc (suc n))) c (omega arith) a

pair_u_ends : (h : ℕ) (a : Bytes) → Ends (pair_u h) a
pair_u_ends h a = ends_then pair_hex (low_ends h 0 0 a)

pair_ends : (h : ℕ) (a : Bytes) → Ends (pair h) a
pair_ends h a = ends_then pair_backslash (pair_u_ends h a)

-- by zeros, or by zeros and a low surrogate
digits_last : (n c : ℕ) → 3 ≤ n → (a : Bytes) → Ends (Inside.digits none n c) a
digits_last n c l a = go (tell (between 0xD800 0xDBFF (c * 16 + 0)))
  where
    go
        : (between 0xD800 0xDBFF (c * 16 + 0) ≡ true) ⊎ (between 0xD800 0xDBFF (c * 16 + 0) ≡ false)
        → Ends (Inside.digits none n c) a
    go (inl e) =
        ends_then (high zero_hex (fits_later none n c 0 (omega arith)) l (between_in e)) (pair_ends (c * 16 + 0) a)
    go (inr e) = ends_then (alone zero_hex (fits_later none n c 0 (omega arith)) l (between_out e)) (ends_now _)

digits_third : (c : ℕ) (a : Bytes) → Ends (Inside.digits none 2 c) a
digits_third c a =
    ends_then
    (digit zero_hex (fits_later none 2 c 0 (omega arith)) (omega arith))
    (digits_last 3 (c * 16 + 0) (omega arith) a)

digits_next : (c : ℕ) (a : Bytes) → Ends (Inside.digits none 1 c) a
digits_next c a = ends_then (digit zero_hex (fits_second c 0 (λ e l. omega arith)) (omega arith)) (digits_third (c * 16 + 0) a)

digits_ends : (n c : ℕ) (a : Bytes) → Ends (Inside.digits none n c) a
digits_ends zero c a = ends_then (digit zero_hex (fits_first c 0) (omega arith)) (digits_next (c * 16 + 0) a)
digits_ends (suc zero) c a = digits_next c a
digits_ends (suc (suc zero)) c a = digits_third c a
digits_ends (suc (suc (suc n))) c a = digits_last (suc (suc (suc n))) c (omega arith) a

live_ends : (i : Inside) → Live i → (a : Bytes) → Ends i a
live_ends Inside.chars l a = ends_now a
live_ends (tail lo hi n) l a = tail_ends n lo hi l a
live_ends Inside.escape l a = ends_then (short Rfc.escaped_char.solidus) (ends_now _)
live_ends (Inside.digits none n c) l a = digits_ends n c a
live_ends (Inside.digits (some h) n c) l a = low_ends h n c a
live_ends (pair h) l a = pair_ends h a
live_ends (pair_u h) l a = pair_u_ends h a

-- every string begun can be completed
pub string_live
    : {xs acc : Bytes} {i : Inside} → TextSteps Inside.chars [] xs i acc
    → (ys acc' : Bytes) × TextSteps i acc ys Inside.chars acc'
string_live {acc} {i} f = live_ends i (steps_live f tt) acc

-- ---- a wrong byte

-- a closing quote stands behind no byte that is wrong
dead
    : {i j k : Inside} {a c d xs zs : Bytes} → TextSteps i a xs j c → TextSteps i a zs k d → (b : ℕ) (ys r : Bytes)
    → text_step j c b ≡ wrong → text_step k d 0x22 ≡ closed → xs ++ b ∷ ys ≡ zs ++ 0x22 ∷ r → ⊥
dead {i} {a} text_stay text_stay b ys r w e h =
    let x : text_step i a b ≡ text_step i a 0x22 = ap (text_step i a) (head-eq_of_cons-eq h) in
    let z : ◌≡◌ {A = ℕ} 0 1 = cc in
    omega arith
dead {i} {a} text_stay (text_then {b = y} m g) b ys r w e h =
    let x : text_step i a b ≡ text_step i a y = ap (text_step i a) (head-eq_of_cons-eq h) in
    let z : ◌≡◌ {A = ℕ} 0 1 = cc in
    omega arith
dead {i} {a} (text_then {b = y} m f) text_stay b ys r w e h =
    let x : text_step i a y ≡ text_step i a 0x22 = ap (text_step i a) (head-eq_of_cons-eq h) in
    let z : ◌≡◌ {A = ℕ} 0 1 = cc in
    omega arith
dead {i} {k} {a} {d} (text_then {j = x} {c = p} {b = m} n f) (text_then {j = y} {c = q} {xs} {b = o} n' g) b ys r w e h =
    let s : text_step i a m ≡ text_step i a o = ap (text_step i a) (head-eq_of_cons-eq h) in
    let u : x ≡ y = cc in
    let v : p ≡ q = cc in
    dead f (subst₂ (λ l t. TextSteps l t xs k d) (sym u) (sym v) g) b ys r w e (tail-eq_of_cons-eq h)

-- a byte that is wrong inside a string is in none
pub string_dead
    : {xs acc : Bytes} {i : Inside} → TextSteps Inside.chars [] xs i acc → (b : ℕ) → text_step i acc b ≡ wrong
    → (ys t r : Bytes) → Rfc.chars (xs ++ b ∷ ys) t (0x22 ∷ r) → ⊥
string_dead f b w ys t r h =
    let k = chars_steps h in
    dead f k.2 b ys r w (quote_closes (reverse t)) k.1
