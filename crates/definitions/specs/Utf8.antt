-- UTF-8 as RFC 3629 defines it: section 4's table for reading, section 3's for writing. Assumes nothing.
use Rattle.std.specs.Prelude.{ℕ, ◌+◌, ◌/◌, ◌%◌, true, false, List, [], ◌∷◌, ltb}
use Rattle.definitions.specs.Bytes.{Bytes, Row, row}

-- what may follow a head byte: a second byte from one up to another, and then so many bytes of UTF8Tail
pub data Tails : Type 0 where
  tails : ℕ → ℕ → ℕ → Tails

-- UTF82, UTF83 and UTF84, by their first byte
unfoldable pub head_table : List (Row Tails)
head_table =
    row 0xC2 0xDF (tails 0x80 0xBF 0)
    ∷ row 0xE0 0xE0 (tails 0xA0 0xBF 1)
    ∷ row 0xE1 0xEC (tails 0x80 0xBF 1)
    ∷ row 0xED 0xED (tails 0x80 0x9F 1)
    ∷ row 0xEE 0xEF (tails 0x80 0xBF 1)
    ∷ row 0xF0 0xF0 (tails 0x90 0xBF 2)
    ∷ row 0xF1 0xF3 (tails 0x80 0xBF 2)
    ∷ row 0xF4 0xF4 (tails 0x80 0x8F 2)
    ∷ []

-- the bytes of a character number, by RFC 3629 section 3
unfoldable pub encode : ℕ → Bytes
encode c =
    elim (ltb c 0x80) [
      | true ↦ c ∷ []
      | false ↦
          elim (ltb c 0x800) [
            | true ↦ (0xC0 + c / 64) ∷ (0x80 + c % 64) ∷ []
            | false ↦
                elim (ltb c 0x10000) [
                  | true ↦ (0xE0 + c / 4096) ∷ (0x80 + c / 64 % 64) ∷ (0x80 + c % 64) ∷ []
                  | false ↦ (0xF0 + c / 262144) ∷ (0x80 + c / 4096 % 64) ∷ (0x80 + c / 64 % 64) ∷ (0x80 + c % 64) ∷ []
                ]
          ]
    ]
