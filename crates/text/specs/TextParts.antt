-- What the parts of reading a text answer: each says how `text_run` goes over its bytes. Assumes nothing.
use Rattle.std.specs.Prelude.{ℕ, ◌+◌, ◌-◌, ◌/◌, ◌%◌, ◌≤◌, ◌<◌, ◌≡◌, Bool, true, false, not, ◌&&◌, eqb, length, take, drop, get_or, Result, Ok, Err, Some, None}
use Rattle.std.specs.Prelude as std
use Rattle.std.specs.Prelude.{◌^◌, bit_and, bit_xor}
use mathlib.Core.List.{List, [], ◌∷◌, ◌++◌, reverse, reverse_aux}
use Rattle.std.proofs.Math.Option.{Option, none, some}
use Rattle.definitions.specs.Bytes.{Bytes, bytes, between, look, found}
use Rattle.definitions.specs.Utf8.{Tails, tails, encode}
use Rattle.definitions.specs.Text.{Inside, TextMove, wrong, more, closed, hex_table, digit_fits, unicode}
use Rattle.definitions.specs.Plain.{short_escapes, hex_digit, escaped_all}
use Rattle.pool.specs.Lanes.{lane}
use Rattle.pool.specs.Pool.{unpacked, words, text_in}
use Rattle.text.specs.TextRun.{TextEnd, broke, text_run}
use Rattle.text.specs.TextRead.{Padded}
use Rattle.text.specs.declared.unicode.Code.{Code}
use Rattle.text.specs.declared.wide.Tails as wide
use Rattle.text.specs.declared.pieces.Piece.{Piece}
use Rattle.text.specs.declared.pieces.Escape.{Escape}
use Rattle.text.specs.declared.pieces.Escape.TheVariants as EscapeIs

-- ---- bytes

-- a byte of ASCII that stands for itself between characters
unfoldable pub plain_ascii : ℕ → Bool
plain_ascii b = between 0x20 0x7F b && not (eqb b 0x22) && not (eqb b 0x5C)

-- its highest bit tells of a byte below 80 whether it is from 20 on, and neither a quote nor a backslash
abbrev pub plain_bits : ℕ → ℕ
plain_bits b = bit_and (bit_and (bit_and b 0x7F + 0x60) (bit_xor (bit_and b 0x7F) 0x22 + 0x7F)) (bit_xor (bit_and b 0x7F) 0x5C + 0x7F)

-- the same of each byte of a word
pub record PlainBits (x y : ℕ) : Type 0 where
  pub each : (j : ℕ) → j < 8 → lane y j ≡ plain_bits (lane x j)
  pub small : y < 2 ^ 64

-- the value of a hexadecimal digit
unfoldable pub hex_value : ℕ → std.Option ℕ
hex_value b = elim (look hex_table b) [ none ↦ None | some k ↦ Some (b - k) ]

-- what an escape means
unfoldable pub escape_as : std.Option Escape → Option (Option ℕ)
escape_as (Some (EscapeIs.Byte c)) = some (some c)
escape_as (Some EscapeIs.Digits) = some none
escape_as None = none

-- the byte behind the backslash where b is written as an escape of two characters
unfoldable pub short_form : ℕ → std.Option ℕ
short_form b = elim (look short_escapes b) [ none ↦ None | some e ↦ Some (get_or e 1 0) ]

-- "`\u00` and two lower-case hexadecimal digits"
unfoldable pub hex_escape : ℕ → Bytes
hex_escape b = bytes "\\u00" ++ hex_digit (b / 16) ∷ hex_digit (b % 16) ∷ []

-- `digit_fits`, which asks of a high surrogate only whether it is there
unfoldable pub fits_as : Bool → (n c d : ℕ) → Bool
fits_as false n c d = digit_fits none n c d
fits_as true n c d = digit_fits (some 0) n c d

unfoldable pub tails_as : std.Option wide.Tails → Option Tails
tails_as (Some t) = some (tails t.0 t.1 t.2)
tails_as None = none

-- ---- reading on

-- no text goes on so at place
pub record Breaks (doc : Bytes) (i : Inside) (at place : ℕ) : Type 0 where
  pub run : (acc : Bytes) → text_run i acc (drop at doc) ≡ broke (drop place doc)
  pub from : at ≤ place
  pub within : place ≤ length doc

-- reading on behind a step that goes on
unfoldable pub onward : TextMove → Bytes → TextEnd
onward wrong r = broke r
onward (more i acc) r = text_run i acc r
onward closed r = broke r

-- ---- bytes that stand for themselves

-- between characters, and in plain JSON
pub record Stands (s : Bytes) : Type 0 where
  pub run : (acc r : Bytes) → text_run Inside.chars acc (s ++ r) ≡ text_run Inside.chars (reverse_aux s acc) r
  pub itself : length (escaped_all s) ≡ length s

-- the first m bytes of a word do
pub record FrontStands (x m : ℕ) : Type 0 where
  pub within : m ≤ 8
  pub stands : Stands (take m (unpacked x))

-- a character of several bytes that a word begins with has k bytes
abbrev pub WideFront : ℕ → std.Option ℕ → Type 0
WideFront x (Some k) = FrontStands x k × (2 ≤ k) × (k ≤ 4)
WideFront x None = Unit {0}

-- ---- escapes by digits

-- four digits of value v
pub record DigitsRead (doc : Bytes) (at : ℕ) (low : Bool) (v next : ℕ) : Type 0 where
  pub run
      : (high : Option ℕ) → found high ≡ low → (acc : Bytes)
      → text_run (Inside.digits high 0 0) acc (drop at doc) ≡ onward (unicode high v acc) (drop next doc)
  pub behind : next ≡ at + 4
  pub within : next ≤ length doc
  pub small : v < 0x10000
  pub paired : low ≡ true → (0xDC00 ≤ v) × (v ≤ 0xDFFF)

abbrev pub ReadsDigits : Bytes → ℕ → Bool → Result Code ℕ → Type 0
ReadsDigits doc at low (Ok c) = DigitsRead doc at low c.value c.next
ReadsDigits doc at low (Err place) = (high : Option ℕ) → found high ≡ low → Breaks doc (Inside.digits high 0 0) at place

-- a character c by its number
pub record CodeRead (doc : Bytes) (i : Inside) (at c next : ℕ) : Type 0 where
  pub run
      : (acc : Bytes) → text_run i acc (drop at doc) ≡ text_run Inside.chars (reverse_aux (encode c) acc) (drop next doc)
  pub ahead : at + 4 ≤ next
  pub within : next ≤ length doc
  pub valid : c < 0x110000

abbrev pub ReadsCode : Bytes → Inside → ℕ → Result Code ℕ → Type 0
ReadsCode doc i at (Ok c) = CodeRead doc i at c.value c.next
ReadsCode doc i at (Err place) = Breaks doc i at place

-- ---- characters of several bytes

-- the bytes up to place next stand for themselves, here and in plain JSON
pub record WideRead (doc : Bytes) (i : Inside) (at next : ℕ) : Type 0 where
  pub run
      : (acc : Bytes)
      → text_run i acc (drop at doc) ≡ text_run Inside.chars (reverse_aux (take (next - at) (drop at doc)) acc) (drop next doc)
  pub itself : length (escaped_all (take (next - at) (drop at doc))) ≡ next - at
  pub ahead : at < next
  pub within : next ≤ length doc

abbrev pub ReadsWide : Bytes → Inside → ℕ → Result ℕ ℕ → Type 0
ReadsWide doc i at (Ok next) = WideRead doc i at next
ReadsWide doc i at (Err place) = Breaks doc i at place

-- ---- the pool

-- what stands before word w is kept
pub record Keeps (p p' : List ℕ) (w : ℕ) : Type 0 where
  pub kept : length p' ≡ length p
  pub front : take w p' ≡ take w p

-- the bytes s are put behind the text of n bytes at word w
pub record Puts (p p' : List ℕ) (w n : ℕ) (s : Bytes) : Type 0 where
  pub text : text_in p' w (n + length s) ≡ text_in p w n ++ s
  pub padded : Padded p w n → Padded p' w (n + length s)
  pub keeps : Keeps p p' w

-- what stands from place i up to place next, behind the text of n bytes: now it has m, and is longer by cost in plain JSON
pub record ReadOn (doc : Bytes) (i : ℕ) (p p' : List ℕ) (w n next m cost : ℕ) : Type 0 where
  pub run
      : text_run Inside.chars (reverse (text_in p w n)) (drop i doc)
      ≡ text_run Inside.chars (reverse (text_in p' w m)) (drop next doc)
  pub costs : length (escaped_all (text_in p' w m)) ≡ length (escaped_all (text_in p w n)) + cost
  pub within : next ≤ length doc
  pub shorter : i + m ≤ next + n
  pub bounded : i + cost ≤ next
  pub padded : Padded p w n → Padded p' w m
  pub keeps : Keeps p p' w

-- a piece of it
pub record PieceRead (doc : Bytes) (i : ℕ) (p p' : List ℕ) (w n next m cost : ℕ) : Type 0 where
  pub read : ReadOn doc i p p' w n next m cost
  pub ahead : i < next

pub record PieceBroken (doc : Bytes) (i : ℕ) (p p' : List ℕ) (w place : ℕ) : Type 0 where
  pub breaks : Breaks doc Inside.chars i place
  pub keeps : Keeps p p' w

abbrev pub ReadsPiece : Bytes → ℕ → List ℕ → List ℕ → ℕ → ℕ → Result Piece ℕ → Type 0
ReadsPiece doc i p p' w n (Ok piece) = PieceRead doc i p p' w n piece.next piece.length piece.cost
ReadsPiece doc i p p' w n (Err place) = PieceBroken doc i p p' w place

-- the bytes from place i up to place next stand for themselves, and are put behind the text of n bytes
pub record Stood (doc : Bytes) (i : ℕ) (p p' : List ℕ) (w n next : ℕ) : Type 0 where
  pub stands : Stands (take (next - i) (drop i doc))
  pub puts : Puts p p' w n (take (next - i) (drop i doc))
  pub ahead : i ≤ next
  pub within : next ≤ length doc

-- up to place i the text behind place at is read: n bytes are in the pool, which make m bytes of plain JSON with the quotes
pub record Reading (doc : Bytes) (at : ℕ) (p₀ : List ℕ) (w i n m : ℕ) (p : List ℕ) : Type 0 where
  pub run : text_run Inside.chars [] (drop at doc) ≡ text_run Inside.chars (reverse (text_in p w n)) (drop i doc)
  pub written : m ≡ 2 + length (escaped_all (text_in p w n))
  pub shorter : at + n ≤ i
  pub bounded : at + m ≤ i + 2
  pub within : i ≤ length doc
  pub padded : Padded p w n
  pub keeps : Keeps p₀ p w

-- room for what may come from place i on
abbrev pub Room : Bytes → ℕ → List ℕ → (w n : ℕ) → Type 0
Room doc i p w n = (i < length doc) × (w + words (n + (length doc - i)) ≤ length p)
