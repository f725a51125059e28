-- RFC 8259's `char`s are stepped through inside a JSON string (definitions' Text). Assumes nothing.
use Rattle.std.specs.Prelude.{ℕ, ◌+◌, ◌*◌, ◌≤◌, ◌<◌, ◌≡◌, refl, ◌⊎◌, true, false, ◌&&◌, leb, eqb}
use Rattle.std.proofs.Common.{sym, ◌∙◌, ap, subst, inl, inr, arith}
use mathlib.Core.List.{[], ◌∷◌, ◌++◌, reverse_aux, append_assoc, reverse_aux-append}
use Rattle.std.proofs.Math.Option.{Option, none, some}
use Rattle.definitions.specs.Bytes.{Bytes}
use Rattle.definitions.specs.Utf8.{encode}
use Rattle.definitions.specs.Text.{Inside, pair, digit_fits, pair_of}
use Rattle.laws.specs.Bools.{and_left, and_right, and_intro, not_false}
use Rattle.laws.specs.Ranges.{leb_le, le-leb, eqb_eq, eq-eqb, ne_eqb, fails}
use Rattle.laws.specs.Rfc3629.{In, utf8_2, utf8_3a, utf8_3b, utf8_3c, utf8_3d, utf8_4a, utf8_4b, utf8_4c}
use Rattle.laws.specs.Rfc8259 as Rfc
use Rattle.laws.specs.EncodeLaws.{encodes_encode}
use Rattle.laws.specs.Steps.{TextSteps, text_stay, text_then, text_steps_append}
use Rattle.laws.proofs.StringRows.{Heads, head_c2, head_e0, head_e1, head_ed, head_ee, head_f0, head_f1, head_f4}
use Rattle.laws.proofs.StringSteps.{Move, plain, head, last_tail, next_tail, backslash, short, hex}
use Rattle.laws.proofs.StringSteps.{digit, high, alone, low, pair_backslash, pair_hex, move_step}
use Rattle.laws.proofs.StringSound.{hexdig_under}

-- ---- several steps

-- s begins with bytes that lead from i and its bytes a to j and c, and r is left
abbrev pub Through : Inside → Bytes → Inside → Bytes → Bytes → Bytes → Type 0
Through i a j c s r = (xs : Bytes) × (s ≡ xs ++ r) × TextSteps i a xs j c

through_none : {i : Inside} {a s : Bytes} → Through i a i a s s
through_none = ([], refl, text_stay)

through_then
    : {i j k : Inside} {a c d s r : Bytes} {b : ℕ} → Move i a b j c → Through j c k d s r → Through i a k d (b ∷ s) r
through_then {b} m h = (b ∷ h.0, ap (λ x. b ∷ x) h.1, text_then (move_step m) h.2)

through_append
    : {i j k : Inside} {a c d s t r : Bytes} → Through i a j c s t → Through j c k d t r → Through i a k d s r
through_append {r} h k =
    (h.0 ++ k.0, h.1 ∙ ap (λ x. h.0 ++ x) k.1 ∙ sym (append_assoc h.0 k.0 r), text_steps_append h.2 k.2)

-- an unescaped character's steps
plain_through
    : {b : ℕ} {a r : Bytes} → In 0x20 0x7F b → (b ≡ 0x22 → ⊥) → (b ≡ 0x5C → ⊥)
    → Through Inside.chars a Inside.chars (b ∷ a) (b ∷ r) r
plain_through i q n = through_then (plain i q n) through_none

wide_2_through
    : {b lo hi c : ℕ} {a r : Bytes} → Heads b lo hi 0 → In lo hi c
    → Through Inside.chars a Inside.chars (c ∷ b ∷ a) (b ∷ c ∷ r) r
wide_2_through h i = through_then (head h) (through_then (last_tail i) through_none)

wide_3_through
    : {b lo hi c d : ℕ} {a r : Bytes} → Heads b lo hi 1 → In lo hi c → In 0x80 0xBF d
    → Through Inside.chars a Inside.chars (d ∷ c ∷ b ∷ a) (b ∷ c ∷ d ∷ r) r
wide_3_through h i j = through_then (head h) (through_then (next_tail i) (through_then (last_tail j) through_none))

wide_4_through
    : {b lo hi c d e : ℕ} {a r : Bytes} → Heads b lo hi 2 → In lo hi c → In 0x80 0xBF d → In 0x80 0xBF e
    → Through Inside.chars a Inside.chars (e ∷ d ∷ c ∷ b ∷ a) (b ∷ c ∷ d ∷ e ∷ r) r
wide_4_through h i j k =
    through_then (head h) (through_then (next_tail i) (through_then (next_tail j) (through_then (last_tail k) through_none)))

unescaped_through : {s t r a : Bytes} → Rfc.unescaped s t r → Through Inside.chars a Inside.chars (reverse_aux t a) s r
unescaped_through (Rfc.plain_1 i) = plain_through (omega arith) (omega arith) (omega arith)
unescaped_through (Rfc.plain_2 i) = plain_through (omega arith) (omega arith) (omega arith)
unescaped_through (Rfc.plain_3 i) = plain_through (omega arith) (omega arith) (omega arith)
unescaped_through (Rfc.wide_2 (utf8_2 i j)) = wide_2_through (head_c2 i) j
unescaped_through (Rfc.wide_3 (utf8_3a i j k)) = wide_3_through (head_e0 i) j k
unescaped_through (Rfc.wide_3 (utf8_3b i j k)) = wide_3_through (head_e1 i) j k
unescaped_through (Rfc.wide_3 (utf8_3c i j k)) = wide_3_through (head_ed i) j k
unescaped_through (Rfc.wide_3 (utf8_3d i j k)) = wide_3_through (head_ee i) j k
unescaped_through (Rfc.wide_4 (utf8_4a i j k l)) = wide_4_through (head_f0 i) j k l
unescaped_through (Rfc.wide_4 (utf8_4b i j k l)) = wide_4_through (head_f1 i) j k l
unescaped_through (Rfc.wide_4 (utf8_4c i j k l)) = wide_4_through (head_f4 i) j k l

-- ---- escapes

first_digit
    : {o : Option ℕ} {a : Bytes} {b d : ℕ} → Rfc.HEXDIG b d → digit_fits o 0 0 d ≡ true
    → Move (Inside.digits o 0 0) a b (Inside.digits o 1 d) a
first_digit {o} {a} {b} {d} x f =
    subst (λ c. Move (Inside.digits o 0 0) a b (Inside.digits o 1 c) a) (omega arith) (digit x f (omega arith))

-- the third digit and those behind it always fit
pub fits_later : (o : Option ℕ) (n c d : ℕ) → 2 ≤ n → digit_fits o n c d ≡ true
unfolding digit_fits
fits_later none n c d l = let e : eqb n 1 ≡ false = ne_eqb (λ z. off 1 z (omega arith)) in rw (e, digit_fits)
  where
    off : (k : ℕ) → n ≡ k → k < n → ⊥
    off k e l = omega arith
fits_later (some h) n c d l =
    let e : eqb n 0 ≡ false = ne_eqb (λ z. off 0 z (omega arith)) in
    let f : eqb n 1 ≡ false = ne_eqb (λ z. off 1 z (omega arith)) in
    rw (e, f, digit_fits)
  where
    off : (k : ℕ) → n ≡ k → k < n → ⊥
    off k e l = omega arith

pub fits_first : (c d : ℕ) → digit_fits none 0 c d ≡ true
unfolding digit_fits
fits_first c d = refl

pub fits_second : (c d : ℕ) → (c ≡ 0xD → 0xC ≤ d → ⊥) → digit_fits none 1 c d ≡ true
unfolding digit_fits
fits_second c d f =
    not_false
    (fails (eqb c 0xD && leb 0xC d) (λ e. f (eqb_eq (and_left (eqb c 0xD) (leb 0xC d) e)) (leb_le (and_right (eqb c 0xD) (leb 0xC d) e))))

pub low_first : (h c d : ℕ) → d ≡ 0xD → digit_fits (some h) 0 c d ≡ true
unfolding digit_fits
low_first h c d e = and_intro (eq-eqb e) refl

pub low_second : (h c d : ℕ) → 0xC ≤ d → digit_fits (some h) 1 c d ≡ true
unfolding digit_fits
low_second h c d l = le-leb l

-- four digits, the first two of which fit, up to the move of the last
four_through
    : (o : Option ℕ) {a c r : Bytes} {j : Inside} {w x y z d e f : ℕ} → Rfc.HEXDIG w d → Rfc.HEXDIG x e → Rfc.HEXDIG y f
    → digit_fits o 0 0 d ≡ true → digit_fits o 1 d e ≡ true → Move (Inside.digits o 3 ((d * 16 + e) * 16 + f)) a z j c
    → Through (Inside.digits o 0 0) a j c (w ∷ x ∷ y ∷ z ∷ r) r
four_through o {d} {e} {f} p q s k l m =
    through_then
    (first_digit p k)
    (through_then
    (digit q l (omega arith))
    (through_then (digit s (fits_later o 2 (d * 16 + e) f (omega arith)) (omega arith)) (through_then m through_none)))

-- an escape's digits, where it is no low surrogate
escape_through
    : {s r a c : Bytes} {j : Inside} {v : ℕ} → Rfc.unicode s v r → (In 0xDC00 0xDFFF v → ⊥)
    → ((n b d : ℕ) → Rfc.HEXDIG b d → n * 16 + d ≡ v → Move (Inside.digits none 3 n) a b j c) → Through Inside.chars a j c s r
escape_through (Rfc.hex_4 {d} {i} {j} {k} {l} x y z w) n m =
    let e : (i ≡ 0xD → 0xC ≤ j → ⊥) =
    λ e f.
    let q : j < 16 = hexdig_under y in
    let u : k < 16 = hexdig_under z in
    let t : l < 16 = hexdig_under w in
    n (record { from = omega arith; to = omega arith }) in
    through_then
    backslash
    (through_then hex (four_through none x y z (fits_first 0 i) (fits_second i j e) (m ((i * 16 + j) * 16 + k) d l w refl)))

one_through
    : {s r a : Bytes} {v : ℕ} → Rfc.unicode s v r → (v < 0xD800) ⊎ (0xDFFF < v)
    → Through Inside.chars a Inside.chars (reverse_aux (encode v) a) s r
one_through {a} {v} x o = escape_through x (out o) move
  where
    out : (v < 0xD800) ⊎ (0xDFFF < v) → In 0xDC00 0xDFFF v → ⊥
    out (inl l) i = omega arith
    out (inr l) i = omega arith

    out' : (v < 0xD800) ⊎ (0xDFFF < v) → In 0xD800 0xDBFF v → ⊥
    out' (inl l) i = omega arith
    out' (inr l) i = omega arith

    move
        : (n b d : ℕ) → Rfc.HEXDIG b d → n * 16 + d ≡ v
        → Move (Inside.digits none 3 n) a b Inside.chars (reverse_aux (encode v) a)
    move n b d y e =
        subst
        (λ c. Move (Inside.digits none 3 n) a b Inside.chars (reverse_aux (encode c) a))
        e
        (alone y (fits_later none 3 n d (omega arith)) (omega arith) (λ i. out' o (subst (In 0xD800 0xDBFF) e i)))

high_through
    : {s r a : Bytes} {v : ℕ} → Rfc.unicode s v r → In 0xD800 0xDBFF v → Through Inside.chars a (pair v) a s r
high_through {a} {v} x i = escape_through x (λ k. no_both i k) move
  where
    no_both : In 0xD800 0xDBFF v → In 0xDC00 0xDFFF v → ⊥
    no_both i k = omega arith

    move : (n b d : ℕ) → Rfc.HEXDIG b d → n * 16 + d ≡ v → Move (Inside.digits none 3 n) a b (pair v) a
    move n b d y e =
        subst
        (λ c. Move (Inside.digits none 3 n) a b (pair c) a)
        e
        (high y (fits_later none 3 n d (omega arith)) (omega arith) (subst (In 0xD800 0xDBFF) (sym e) i))

low_through
    : {s r a : Bytes} (h : ℕ) {v : ℕ} → Rfc.unicode s v r → In 0xDC00 0xDFFF v
    → Through (pair h) a Inside.chars (reverse_aux (encode (pair_of h v)) a) s r
low_through h (Rfc.hex_4 {i} {j} {k} {l} x y z w) n =
    let q : j < 16 = hexdig_under y in
    let u : k < 16 = hexdig_under z in
    let t : l < 16 = hexdig_under w in
    let e : i ≡ 0xD = omega arith in
    let f : 0xC ≤ j = omega arith in
    through_then
    pair_backslash
    (through_then
    pair_hex
    (four_through (some h) x y z (low_first h 0 i e) (low_second h i j f)
    (low w (fits_later (some h) 3 ((i * 16 + j) * 16 + k) l (omega arith)) (omega arith))))

char_through : {s t r a : Bytes} → Rfc.char s t r → Through Inside.chars a Inside.chars (reverse_aux t a) s r
unfolding pair_of
char_through (Rfc.itself x) = unescaped_through x
char_through (Rfc.escape x) = through_then backslash (through_then (short x) through_none)
char_through (Rfc.one_unicode x o e) = rw (encodes_encode e) (one_through x o)
char_through (Rfc.two_unicode {h} x i y j e) = rw (encodes_encode e) (through_append (high_through x i) (low_through h y j))

pub chars_through : {s t r : Bytes} (a : Bytes) → Rfc.chars s t r → Through Inside.chars a Inside.chars (reverse_aux t a) s r
chars_through a Rfc.no_chars = through_none
chars_through a (Rfc.more_chars {s} {t} {w} {r} x h) =
    subst
    (λ y. Through Inside.chars a Inside.chars y s r)
    (sym (reverse_aux-append t w a))
    (through_append (char_through x) (chars_through (reverse_aux t a) h))
