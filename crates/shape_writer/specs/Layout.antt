-- The parts of a shape text as they are written, by the words of a row. Assumes nothing.
use Rattle.std.specs.Prelude.{ℕ, suc, Bool, true, false, [], ◌++◌}
use Rattle.definitions.specs.Bytes.{Bytes, bytes}
use Rattle.definitions.specs.Plain.{plain_text}
use Rattle.definitions.specs.ShapeText.{new_line}
use Rattle.shapes.specs.Shapes.{has_bit}

-- a word where its kind is there
unfoldable pub word_of : Bool → Bytes → Bytes
word_of true w = w
word_of false w = []

-- how the form of a shape with these kinds begins
unfoldable pub head_text : (kinds : ℕ) → Bytes
head_text kinds =
    bytes "(shape"
    ++ word_of (has_bit kinds 1) (bytes " null")
    ++ word_of (has_bit kinds 2) (bytes " bool")
    ++ word_of (has_bit kinds 4) (bytes " int")
    ++ word_of (has_bit kinds 8) (bytes " dec")
    ++ word_of (has_bit kinds 16) (bytes " text")
    ++ word_of (has_bit kinds 32) (bytes " list")
    ++ word_of (has_bit kinds 64) (bytes " rec")

-- what stands before the shape of a member
unfoldable pub label_text : Bytes → ℕ → Bytes
label_text n around = new_line around ++ bytes "(member " ++ plain_text n ++ new_line (suc around)
