-- Plain JSON: "no white space, keeps member order, and escapes only the quote, the backslash and bytes below 0x20".
-- Assumes nothing.
use Rattle.std.specs.Prelude.{ℕ, zero, suc, ◌+◌, ◌/◌, ◌%◌, ◌^◌, Bool, true, false, List, [], ◌∷◌, ◌++◌, ltb}
use Rattle.std.proofs.Math.Option.{none, some}
use Rattle.definitions.specs.Bytes.{Bytes, bytes, Row, one, row, look}
use Rattle.definitions.specs.Number.{Number}
use Rattle.definitions.specs.Value.{Value, Items, no_items, item, Members, no_members, member}
use Rattle.definitions.specs.Json.{true_name, false_name, null_name}

-- ---- numbers

-- the decimal digits of n before those at hand, in at most so many steps
unfoldable pub decimal_within : ℕ → ℕ → Bytes → Bytes
decimal_within zero n after = after
decimal_within (suc k) n after =
    elim (ltb n 10) [ true ↦ (48 + n) ∷ after | false ↦ decimal_within k (n / 10) ((48 + n % 10) ∷ after) ]

-- the decimal digits of n, with no zero in front
unfoldable pub decimal : ℕ → Bytes
decimal n = decimal_within (suc n) n []

-- the last k decimal digits of n before those at hand
unfoldable pub last_digits : ℕ → ℕ → Bytes → Bytes
last_digits zero n after = after
last_digits (suc k) n after = last_digits k (n / 10) ((48 + n % 10) ∷ after)

-- a point and as many digits as the scale says
unfoldable pub fraction : ℕ → ℕ → Bytes
fraction zero c = []
fraction (suc k) c = bytes "." ++ last_digits (suc k) c []

-- the sign of a negative number
unfoldable pub minus : Bool → Bytes
minus true = bytes "-"
minus false = []

-- a number as it was written (3.50 keeps scale 2); "Zero has no minus" by `number_of_lem`
unfoldable pub plain_number : Number → Bytes
plain_number x = minus x.negative ++ decimal (x.coefficient / 10 ^ x.scale) ++ fraction x.scale x.coefficient

-- ---- texts

-- "two-character escapes where RFC 8259 has them"
unfoldable pub short_escapes : List (Row Bytes)
short_escapes =
    one "\"" (bytes "\\\"")
    ∷ one "\\" (bytes "\\\\")
    ∷ row 0x08 0x08 (bytes "\\b")
    ∷ row 0x0C 0x0C (bytes "\\f")
    ∷ row 0x0A 0x0A (bytes "\\n")
    ∷ row 0x0D 0x0D (bytes "\\r")
    ∷ row 0x09 0x09 (bytes "\\t")
    ∷ []

-- a lower-case hexadecimal digit
unfoldable pub hex_digit : ℕ → ℕ
hex_digit d = elim (ltb d 10) [ true ↦ 48 + d | false ↦ 87 + d ]

-- "else `\u00` and two lower-case hexadecimal digits"
unfoldable pub escaped : ℕ → Bytes
escaped b =
    elim (look short_escapes b) [
      | some e ↦ e
      | none ↦ elim (ltb b 0x20) [ true ↦ bytes "\\u00" ++ hex_digit (b / 16) ∷ hex_digit (b % 16) ∷ [] | false ↦ b ∷ [] ]
    ]

-- each byte of a text as it is written
unfoldable pub escaped_all : Bytes → Bytes
escaped_all [] = []
escaped_all (b ∷ t) = escaped b ++ escaped_all t

-- a text between quotes
unfoldable pub plain_text : Bytes → Bytes
plain_text t = bytes "\"" ++ escaped_all t ++ bytes "\""

-- ---- values

-- the literal name of a bool
unfoldable pub plain_bool : Bool → Bytes
plain_bool true = true_name
plain_bool false = false_name

-- a value as plain JSON; the items behind a first one each have a comma before them
unfoldable mutual
  pub plain : Value → Bytes
  plain Value.null = null_name
  plain (Value.bool b) = plain_bool b
  plain (Value.number x) = plain_number x
  plain (Value.text t) = plain_text t
  plain (Value.list vs) = bytes "[" ++ plain_items [] vs ++ bytes "]"
  plain (Value.rec ms) = bytes "{" ++ plain_members [] ms ++ bytes "}"

  -- a list's elements, with commas between them
  pub plain_items : Bytes → Items → Bytes
  plain_items comma no_items = []
  plain_items comma (item v vs) = comma ++ plain v ++ plain_items (bytes ",") vs

  -- "keeps member order": names and values, with commas between them
  pub plain_members : Bytes → Members → Bytes
  plain_members comma no_members = []
  plain_members comma (member n v ms) = comma ++ plain_text n ++ bytes ":" ++ plain v ++ plain_members (bytes ",") ms
