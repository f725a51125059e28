-- What the program prints of a file. Assumes nothing.
use Rattle.std.specs.Prelude.{ℕ, ◌/◌, ◌%◌, ◌==◌, if◌then◌else◌, List, [], ◌∷◌, ◌++◌, take, replicate, codes, decimal}
use Rattle.definitions.specs.declared.Answer.{Answer}
use Rattle.definitions.specs.Bytes.{Bytes}
use Rattle.definitions.specs.Limits.{standard}
use Rattle.definitions.specs.Json.{read_json}
use Rattle.definitions.specs.Plain.{hex_digit}
use Rattle.definitions.specs.Operations.{Done, finish, plain_judged}

-- how long an accepted file is as plain JSON, or where a refused one is refused
abbrev pub figure_of : Answer → ℕ
figure_of a = if a.number == 0 then a.length else a.place

-- bytes in hexadecimal, two digits each
abbrev pub hex_of : List ℕ → List ℕ
hex_of [] = []
hex_of (b ∷ bs) = hex_digit (b / 16) ∷ (hex_digit (b % 16) ∷ hex_of bs)

-- what an accepted file's line has behind the numbers: the bytes written
abbrev pub shown_of : Done → Bytes
shown_of d = if d.answer.number == 0 then codes " " ++ hex_of (take d.answer.length d.output) else []

-- a file's line
abbrev pub line_of : (name : Bytes) → Done → Bytes
line_of name d = name ++ codes " " ++ decimal d.answer.number ++ codes " " ++ decimal (figure_of d.answer) ++ shown_of d ++ codes "\n"

-- a document as plain JSON, into an output that is never short; no work slice is
unfoldable pub judged : (document : Bytes) → Done
judged document = finish (replicate 16384 0) (plain_judged read_json standard document)
