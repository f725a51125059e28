-- What RFC 8259's `char`s mean is UTF-8 (RFC 3629). Assumes nothing.
use Rattle.std.specs.Prelude.{ℕ, [], ◌∷◌, ◌++◌}
use Rattle.std.proofs.Common.{arith}
use Rattle.definitions.specs.Bytes.{Bytes}
use Rattle.laws.specs.Rfc3629.{In, utf8_1, utf8_2, utf8_3a, utf8_3b, utf8_3c, utf8_3d, utf8_4a, utf8_4b, utf8_4c, UTF8Char, char_1, char_2}
use Rattle.laws.specs.Rfc3629.{char_3, char_4, UTF8Octets, no_octets, octets, Encodes, one_octet, two_octets, three_octets, four_octets}
use Rattle.laws.specs.Rfc8259 as Rfc
pub use Rattle.laws.specs.EncodeLaws.{encode_1, encode_2, encode_3, encode_4}

-- ---- UTF-8

char_append : {s t r : Bytes} → UTF8Char s t r → (w : Bytes) → UTF8Char (s ++ w) t (r ++ w)
char_append (char_1 (utf8_1 i)) w = char_1 (utf8_1 i)
char_append (char_2 (utf8_2 i j)) w = char_2 (utf8_2 i j)
char_append (char_3 (utf8_3a i j k)) w = char_3 (utf8_3a i j k)
char_append (char_3 (utf8_3b i j k)) w = char_3 (utf8_3b i j k)
char_append (char_3 (utf8_3c i j k)) w = char_3 (utf8_3c i j k)
char_append (char_3 (utf8_3d i j k)) w = char_3 (utf8_3d i j k)
char_append (char_4 (utf8_4a i j k l)) w = char_4 (utf8_4a i j k l)
char_append (char_4 (utf8_4b i j k l)) w = char_4 (utf8_4b i j k l)
char_append (char_4 (utf8_4c i j k l)) w = char_4 (utf8_4c i j k l)

pub octets_append : {t w : Bytes} → UTF8Octets t → UTF8Octets w → UTF8Octets (t ++ w)
octets_append no_octets k = k
octets_append {w} (octets c h) k = octets (char_append c w) (octets_append h k)

-- a character's own bytes
char_itself : {s t r : Bytes} → UTF8Char s t r → UTF8Octets t
char_itself (char_1 (utf8_1 i)) = octets (char_1 (utf8_1 i)) no_octets
char_itself (char_2 (utf8_2 i j)) = octets (char_2 (utf8_2 i j)) no_octets
char_itself (char_3 (utf8_3a i j k)) = octets (char_3 (utf8_3a i j k)) no_octets
char_itself (char_3 (utf8_3b i j k)) = octets (char_3 (utf8_3b i j k)) no_octets
char_itself (char_3 (utf8_3c i j k)) = octets (char_3 (utf8_3c i j k)) no_octets
char_itself (char_3 (utf8_3d i j k)) = octets (char_3 (utf8_3d i j k)) no_octets
char_itself (char_4 (utf8_4a i j k l)) = octets (char_4 (utf8_4a i j k l)) no_octets
char_itself (char_4 (utf8_4b i j k l)) = octets (char_4 (utf8_4b i j k l)) no_octets
char_itself (char_4 (utf8_4c i j k l)) = octets (char_4 (utf8_4c i j k l)) no_octets

-- ---- characters

escaped_utf8 : {c b : ℕ} → Rfc.escaped_char c b → In 0x00 0x7F b
escaped_utf8 Rfc.escaped_char.quotation_mark = omega arith
escaped_utf8 Rfc.escaped_char.reverse_solidus = omega arith
escaped_utf8 Rfc.escaped_char.solidus = omega arith
escaped_utf8 Rfc.escaped_char.backspace = omega arith
escaped_utf8 Rfc.escaped_char.form_feed = omega arith
escaped_utf8 Rfc.escaped_char.line_feed = omega arith
escaped_utf8 Rfc.escaped_char.carriage_return = omega arith
escaped_utf8 Rfc.escaped_char.tab = omega arith

one_utf8 : {b : ℕ} → In 0x00 0x7F b → UTF8Octets (b ∷ [])
one_utf8 i = octets (char_1 (utf8_1 i)) no_octets

unescaped_utf8 : {s t r : Bytes} → Rfc.unescaped s t r → UTF8Octets t
unescaped_utf8 (Rfc.plain_1 i) = one_utf8 (omega arith)
unescaped_utf8 (Rfc.plain_2 i) = one_utf8 (omega arith)
unescaped_utf8 (Rfc.plain_3 i) = one_utf8 (omega arith)
unescaped_utf8 (Rfc.wide_2 x) = char_itself (char_2 x)
unescaped_utf8 (Rfc.wide_3 x) = char_itself (char_3 x)
unescaped_utf8 (Rfc.wide_4 x) = char_itself (char_4 x)

encodes_utf8 : {n : ℕ} {t : Bytes} → Encodes n t → UTF8Octets t
encodes_utf8 (one_octet l) = one_utf8 (omega arith)
encodes_utf8 (two_octets x e) = char_itself (char_2 x)
encodes_utf8 (three_octets x e) = char_itself (char_3 x)
encodes_utf8 (four_octets x e) = char_itself (char_4 x)

char_utf8 : {s t r : Bytes} → Rfc.char s t r → UTF8Octets t
char_utf8 (Rfc.itself x) = unescaped_utf8 x
char_utf8 (Rfc.escape x) = one_utf8 (escaped_utf8 x)
char_utf8 (Rfc.one_unicode x o e) = encodes_utf8 e
char_utf8 (Rfc.two_unicode x i y j e) = encodes_utf8 e

-- a string's text is UTF-8
pub chars_utf8 : {s t r : Bytes} → Rfc.chars s t r → UTF8Octets t
chars_utf8 Rfc.no_chars = no_octets
chars_utf8 (Rfc.more_chars x h) = octets_append (char_utf8 x) (chars_utf8 h)
