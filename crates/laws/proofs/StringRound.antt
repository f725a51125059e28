-- Texts written as plain JSON (definitions' Plain) are RFC 8259's strings, and none is longer than the string that it was
-- read from. Assumes nothing.
use Rattle.std.specs.Prelude.{ℕ, ◌+◌, ◌≤◌, ◌≡◌, refl, [], ◌∷◌, ◌++◌, length}
use Rattle.std.proofs.Common.{sym, ◌∙◌, ap, subst, append_assoc, append-nil, length-append, arith}
use Rattle.definitions.specs.Bytes.{Bytes, bytes, look, between}
use Rattle.definitions.specs.Plain.{short_escapes, escaped, escaped_all, plain_text}
use Rattle.laws.specs.Rfc3629.{utf8_1, utf8_2, utf8_3a, utf8_3b, utf8_3c, utf8_3d, utf8_4a, utf8_4b, utf8_4c, UTF8Char, char_1, char_2}
use Rattle.laws.specs.Rfc3629.{char_3, char_4, UTF8Octets, no_octets, octets, Encodes, one_octet, two_octets, three_octets, four_octets}
use Rattle.laws.specs.Rfc8259 as Rfc
use Rattle.laws.proofs.StringWritten.{written, written_char, written_length, written_plain, escaped_high_2, escaped_high_3, escaped_high_4}

-- ---- what was written is read

-- a character t before r, where its bytes are written as e
then_chars
    : (e t r q : Bytes) → escaped_all (t ++ r) ≡ e ++ escaped_all r
    → Rfc.char (e ++ (escaped_all r ++ q)) t (escaped_all r ++ q) → Rfc.chars (escaped_all r ++ q) r q
    → Rfc.chars (escaped_all (t ++ r) ++ q) (t ++ r) q
then_chars e t r q x c h =
    subst
    (λ y. Rfc.chars y (t ++ r) q)
    (sym (ap (λ y. y ++ q) x ∙ append_assoc e (escaped_all r) q))
    (Rfc.more_chars c h)

wide_2_chars
    : {a b : ℕ} {r q : Bytes} → 0x80 ≤ a → 0x80 ≤ b → ((w : Bytes) → Rfc.unescaped (a ∷ b ∷ w) (a ∷ b ∷ []) w)
    → Rfc.chars (escaped_all r ++ q) r q → Rfc.chars (escaped_all (a ∷ b ∷ r) ++ q) (a ∷ b ∷ r) q
wide_2_chars {a} {b} {r} {q} k l f h =
    then_chars (a ∷ b ∷ []) (a ∷ b ∷ []) r q (escaped_high_2 a b r k l) (Rfc.itself (f (escaped_all r ++ q))) h

wide_3_chars
    : {a b c : ℕ} {r q : Bytes} → 0x80 ≤ a → 0x80 ≤ b → 0x80 ≤ c
    → ((w : Bytes) → Rfc.unescaped (a ∷ b ∷ c ∷ w) (a ∷ b ∷ c ∷ []) w) → Rfc.chars (escaped_all r ++ q) r q
    → Rfc.chars (escaped_all (a ∷ b ∷ c ∷ r) ++ q) (a ∷ b ∷ c ∷ r) q
wide_3_chars {a} {b} {c} {r} {q} k l m f h =
    then_chars (a ∷ b ∷ c ∷ []) (a ∷ b ∷ c ∷ []) r q (escaped_high_3 a b c r k l m) (Rfc.itself (f (escaped_all r ++ q))) h

wide_4_chars
    : {a b c d : ℕ} {r q : Bytes} → 0x80 ≤ a → 0x80 ≤ b → 0x80 ≤ c → 0x80 ≤ d
    → ((w : Bytes) → Rfc.unescaped (a ∷ b ∷ c ∷ d ∷ w) (a ∷ b ∷ c ∷ d ∷ []) w) → Rfc.chars (escaped_all r ++ q) r q
    → Rfc.chars (escaped_all (a ∷ b ∷ c ∷ d ∷ r) ++ q) (a ∷ b ∷ c ∷ d ∷ r) q
wide_4_chars {a} {b} {c} {d} {r} {q} k l m n f h =
    then_chars
    (a ∷ b ∷ c ∷ d ∷ [])
    (a ∷ b ∷ c ∷ d ∷ [])
    r
    q
    (escaped_high_4 a b c d r k l m n)
    (Rfc.itself (f (escaped_all r ++ q)))
    h

char_chars
    : {s t r q : Bytes} → UTF8Char s t r → Rfc.chars (escaped_all r ++ q) r q → Rfc.chars (escaped_all s ++ q) s q
unfolding escaped_all
char_chars {q} (char_1 (utf8_1 {a} {r} i)) h =
    then_chars (escaped a) (a ∷ []) r q refl (written_char (written a) (omega arith) (escaped_all r ++ q)) h
char_chars (char_2 (utf8_2 i j)) h = wide_2_chars (omega arith) (omega arith) (λ w. Rfc.wide_2 (utf8_2 i j)) h
char_chars (char_3 (utf8_3a i j k)) h =
    wide_3_chars (omega arith) (omega arith) (omega arith) (λ w. Rfc.wide_3 (utf8_3a i j k)) h
char_chars (char_3 (utf8_3b i j k)) h =
    wide_3_chars (omega arith) (omega arith) (omega arith) (λ w. Rfc.wide_3 (utf8_3b i j k)) h
char_chars (char_3 (utf8_3c i j k)) h =
    wide_3_chars (omega arith) (omega arith) (omega arith) (λ w. Rfc.wide_3 (utf8_3c i j k)) h
char_chars (char_3 (utf8_3d i j k)) h =
    wide_3_chars (omega arith) (omega arith) (omega arith) (λ w. Rfc.wide_3 (utf8_3d i j k)) h
char_chars (char_4 (utf8_4a i j k l)) h =
    wide_4_chars (omega arith) (omega arith) (omega arith) (omega arith) (λ w. Rfc.wide_4 (utf8_4a i j k l)) h
char_chars (char_4 (utf8_4b i j k l)) h =
    wide_4_chars (omega arith) (omega arith) (omega arith) (omega arith) (λ w. Rfc.wide_4 (utf8_4b i j k l)) h
char_chars (char_4 (utf8_4c i j k l)) h =
    wide_4_chars (omega arith) (omega arith) (omega arith) (omega arith) (λ w. Rfc.wide_4 (utf8_4c i j k l)) h

octets_chars : {t : Bytes} → UTF8Octets t → (q : Bytes) → Rfc.chars (escaped_all t ++ q) t q
unfolding escaped_all
octets_chars no_octets q = Rfc.no_chars
octets_chars (octets c h) q = char_chars c (octets_chars h q)

-- a text's bytes, written, are characters that mean it
pub escaped_chars
    : (t : Bytes) → UTF8Octets t → (r : Bytes) → Rfc.chars (escaped_all t ++ 0x22 ∷ r) t (0x22 ∷ r)
escaped_chars t u r = octets_chars u (0x22 ∷ r)

-- a text written between quotes is a string that means it
pub plain_string : (t : Bytes) → UTF8Octets t → (r : Bytes) → Rfc.string (plain_text t ++ r) t r
unfolding plain_text bytes
plain_string t u r =
    Rfc.quoted
    (subst (λ s. Rfc.chars s t (0x22 ∷ r)) (sym (append_assoc (escaped_all t) (0x22 ∷ []) r)) (escaped_chars t u r))

-- ---- lengths

escaped_append : (t w : Bytes) → escaped_all (t ++ w) ≡ escaped_all t ++ escaped_all w
unfolding escaped_all
escaped_append [] w = refl
escaped_append (b ∷ t) w =
    ap (λ x. escaped b ++ x) (escaped_append t w) ∙ sym (append_assoc (escaped b) (escaped_all t) (escaped_all w))

-- a byte's length, written, alone
alone_length : (b : ℕ) → length (escaped_all (b ∷ [])) ≡ length (escaped b)
unfolding escaped_all
alone_length b = ap length (append-nil (escaped b))

plain_length : (b : ℕ) → 0x20 ≤ b → (b ≡ 0x22 → ⊥) → (b ≡ 0x5C → ⊥) → length (escaped_all (b ∷ [])) ≡ 1
plain_length b l q n = alone_length b ∙ written_plain (written b) l q n

short_length : {c b : ℕ} → Rfc.escaped_char c b → length (escaped_all (b ∷ [])) ≤ 2
unfolding escaped_all escaped look between short_escapes bytes
short_length Rfc.escaped_char.quotation_mark = omega arith
short_length Rfc.escaped_char.reverse_solidus = omega arith
short_length Rfc.escaped_char.solidus = omega arith
short_length Rfc.escaped_char.backspace = omega arith
short_length Rfc.escaped_char.form_feed = omega arith
short_length Rfc.escaped_char.line_feed = omega arith
short_length Rfc.escaped_char.carriage_return = omega arith
short_length Rfc.escaped_char.tab = omega arith

unescaped_length : {s t r : Bytes} → Rfc.unescaped s t r → length (escaped_all t) + length r ≡ length s
unfolding escaped_all
unescaped_length (Rfc.plain_1 {b} i) = let e = plain_length b (omega arith) (omega arith) (omega arith) in omega arith
unescaped_length (Rfc.plain_2 {b} i) = let e = plain_length b (omega arith) (omega arith) (omega arith) in omega arith
unescaped_length (Rfc.plain_3 {b} i) = let e = plain_length b (omega arith) (omega arith) (omega arith) in omega arith
unescaped_length (Rfc.wide_2 (utf8_2 {a} {b} i j)) =
    let e = ap length (escaped_high_2 a b [] (omega arith) (omega arith)) in
    omega arith
unescaped_length (Rfc.wide_3 (utf8_3a {a} {b} {c} i j k)) =
    let e = ap length (escaped_high_3 a b c [] (omega arith) (omega arith) (omega arith)) in
    omega arith
unescaped_length (Rfc.wide_3 (utf8_3b {a} {b} {c} i j k)) =
    let e = ap length (escaped_high_3 a b c [] (omega arith) (omega arith) (omega arith)) in
    omega arith
unescaped_length (Rfc.wide_3 (utf8_3c {a} {b} {c} i j k)) =
    let e = ap length (escaped_high_3 a b c [] (omega arith) (omega arith) (omega arith)) in
    omega arith
unescaped_length (Rfc.wide_3 (utf8_3d {a} {b} {c} i j k)) =
    let e = ap length (escaped_high_3 a b c [] (omega arith) (omega arith) (omega arith)) in
    omega arith
unescaped_length (Rfc.wide_4 (utf8_4a {a} {b} {c} {d} i j k l)) =
    let e = ap length (escaped_high_4 a b c d [] (omega arith) (omega arith) (omega arith) (omega arith)) in
    omega arith
unescaped_length (Rfc.wide_4 (utf8_4b {a} {b} {c} {d} i j k l)) =
    let e = ap length (escaped_high_4 a b c d [] (omega arith) (omega arith) (omega arith) (omega arith)) in
    omega arith
unescaped_length (Rfc.wide_4 (utf8_4c {a} {b} {c} {d} i j k l)) =
    let e = ap length (escaped_high_4 a b c d [] (omega arith) (omega arith) (omega arith) (omega arith)) in
    omega arith

unicode_length : {s r : Bytes} {c : ℕ} → Rfc.unicode s c r → length s ≡ 6 + length r
unicode_length (Rfc.hex_4 x y z w) = omega arith

-- the octets of a character number, written, are at most six bytes
encodes_length : {n : ℕ} {t : Bytes} → Encodes n t → length (escaped_all t) ≤ 6
encodes_length {n} (one_octet i) =
    let e = alone_length n in
    let l = written_length (written n) in
    omega arith
encodes_length (two_octets x i) = let e = unescaped_length (Rfc.wide_2 x) in omega arith
encodes_length (three_octets x i) = let e = unescaped_length (Rfc.wide_3 x) in omega arith
encodes_length (four_octets x i) = let e = unescaped_length (Rfc.wide_4 x) in omega arith

char_length : {s t r : Bytes} → Rfc.char s t r → length (escaped_all t) + length r ≤ length s
char_length (Rfc.itself x) = let e = unescaped_length x in omega arith
char_length (Rfc.escape x) = let e = short_length x in omega arith
char_length (Rfc.one_unicode x o n) =
    let e = unicode_length x in
    let l = encodes_length n in
    omega arith
char_length (Rfc.two_unicode x i y j n) =
    let e = unicode_length x in
    let f = unicode_length y in
    let k = encodes_length n in
    omega arith

chars_length : {s t r : Bytes} → Rfc.chars s t r → length (escaped_all t) + length r ≤ length s
unfolding escaped_all
chars_length Rfc.no_chars = omega arith
chars_length (Rfc.more_chars {t} {w} x h) =
    let a = char_length x in
    let b = chars_length h in
    let c = ap length (escaped_append t w) ∙ length-append (escaped_all t) (escaped_all w) in
    omega arith

-- a string written again is not longer than it was
pub string_length : {s t r : Bytes} → Rfc.string s t r → length (plain_text t) + length r ≤ length s
unfolding plain_text bytes
string_length (Rfc.quoted {t} h) =
    let a = chars_length h in
    let b = length-append (escaped_all t) (0x22 ∷ []) in
    omega arith
