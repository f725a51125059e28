-- JSON texts (RFC 8259 section 7, "string"), one step a byte from behind the opening quote: which bytes may come next,
-- and the bytes that the text decodes to. Stricter than the RFC: a lone surrogate escape breaks the grammar.
-- Assumes nothing.
use Rattle.std.specs.Prelude.{ℕ, zero, suc, ◌+◌, ◌-◌, ◌*◌, Bool, true, false, not, ◌&&◌, ◌||◌, leb, ltb, eqb}
use mathlib.Core.List.{List, [], ◌∷◌, reverse_aux}
use Rattle.std.proofs.Math.Option.{Option, none, some}
use Rattle.definitions.specs.Bytes.{Bytes, Row, one, span, between, look, is}
use Rattle.definitions.specs.Utf8.{tails, head_table, encode}

-- where in a text a byte stands
pub data Inside : Type 0 where
  -- between characters
  chars : Inside
  -- inside a UTF-8 character: the next byte lies from lo up to hi, and so many tails follow it
  tail : (lo hi more : ℕ) → Inside
  -- behind a backslash
  escape : Inside
  -- behind `\u` and n hexadecimal digits of value c; a high surrogate may wait for its low one
  digits : (high : Option ℕ) (n c : ℕ) → Inside
  -- behind the escape of a high surrogate, where a backslash must come
  pair : (high : ℕ) → Inside
  -- behind that backslash, where a `u` must come
  pair_u : (high : ℕ) → Inside

-- what a byte does: no text goes on so; the text goes on, its bytes so far latest first; it is the closing quote
pub data TextMove : Type 0 where
  wrong : TextMove
  more : Inside → Bytes → TextMove
  closed : TextMove

-- ---- a byte between characters, and in a character of several bytes

-- a character of several bytes begins, as RFC 3629's table has it
unfoldable pub head_step : Bytes → ℕ → TextMove
head_step acc b = elim (look head_table b) [ none ↦ wrong | some t ↦ elim t [ tails lo hi n ↦ more (tail lo hi n) (b ∷ acc) ] ]

-- RFC 8259's char: the closing quote, a backslash, or unescaped: 20 to 21, 23 to 5B, 5D and above
unfoldable pub char_step : Bytes → ℕ → TextMove
char_step acc b =
    elim (is "\"" b) [
      | true ↦ closed
      | false ↦
          elim (is "\\" b) [
            | true ↦ more escape acc
            | false ↦ elim (between 0x20 0x7F b) [ true ↦ more chars (b ∷ acc) | false ↦ head_step acc b ]
          ]
    ]

-- where a text stands behind a byte of a character that so many tails follow
unfoldable pub behind_tail : ℕ → Inside
behind_tail zero = chars
behind_tail (suc n) = tail 0x80 0xBF n

-- ---- escapes

-- what the character behind a backslash means: a byte, or `none` for `u`
unfoldable pub escape_table : List (Row (Option ℕ))
escape_table =
    one "\"" (some 0x22)
    ∷ one "\\" (some 0x5C)
    ∷ one "/" (some 0x2F)
    ∷ one "b" (some 0x08)
    ∷ one "f" (some 0x0C)
    ∷ one "n" (some 0x0A)
    ∷ one "r" (some 0x0D)
    ∷ one "t" (some 0x09)
    ∷ one "u" none
    ∷ []

-- a byte behind a backslash
unfoldable pub escape_step : Bytes → ℕ → TextMove
escape_step acc b =
    elim (look escape_table b) [ none ↦ wrong | some e ↦ elim e [ none ↦ more (digits none 0 0) acc | some c ↦ more chars (c ∷ acc) ] ]

-- RFC 8259's HEXDIG in either case, with what is to be subtracted for its value
unfoldable pub hex_table : List (Row ℕ)
hex_table = span "0" "9" 48 ∷ span "A" "F" 55 ∷ span "a" "f" 87 ∷ []

-- no DC00 to DFFF may come by itself, and behind a high surrogate nothing else: judged at the first and second digit
unfoldable pub digit_fits : Option ℕ → (n c d : ℕ) → Bool
digit_fits none n c d = not (eqb n 1 && eqb c 0xD && leb 0xC d)
digit_fits (some h) n c d = (not (eqb n 0) || eqb d 0xD) && (not (eqb n 1) || leb 0xC d)

-- the character of a high and a low surrogate
unfoldable pub pair_of : ℕ → ℕ → ℕ
pair_of h l = 0x10000 + (h - 0xD800) * 0x400 + (l - 0xDC00)

-- behind the fourth digit: the character's bytes, or a high surrogate that waits
unfoldable pub unicode : Option ℕ → ℕ → Bytes → TextMove
unicode none c acc =
    elim (between 0xD800 0xDBFF c) [ true ↦ more (pair c) acc | false ↦ more chars (reverse_aux (encode c) acc) ]
unicode (some h) c acc = more chars (reverse_aux (encode (pair_of h c)) acc)

-- a hexadecimal digit d behind n others of value c
unfoldable pub digit_step : Option ℕ → (n c d : ℕ) → Bytes → TextMove
digit_step high n c d acc =
    elim (digit_fits high n c d) [
      | true ↦
          elim (ltb n 3) [ true ↦ more (digits high (suc n) (c * 16 + d)) acc | false ↦ unicode high (c * 16 + d) acc ]
      | false ↦ wrong
    ]

-- ---- the step

-- what byte b does inside a text whose bytes so far are acc, latest first
unfoldable pub text_step : Inside → Bytes → ℕ → TextMove
text_step chars acc b = char_step acc b
text_step (tail lo hi n) acc b = elim (between lo hi b) [ true ↦ more (behind_tail n) (b ∷ acc) | false ↦ wrong ]
text_step escape acc b = escape_step acc b
text_step (digits high n c) acc b = elim (look hex_table b) [ none ↦ wrong | some k ↦ digit_step high n c (b - k) acc ]
text_step (pair high) acc b = elim (is "\\" b) [ true ↦ more (pair_u high) acc | false ↦ wrong ]
text_step (pair_u high) acc b = elim (is "u" b) [ true ↦ more (digits (some high) 0 0) acc | false ↦ wrong ]
