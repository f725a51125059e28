-- What the program writes of a document. Assumes nothing.
use Rattle.std.specs.Prelude.{ℕ, true, false, ◌++◌, eqb, take, replicate}
use Rattle.definitions.specs.Bytes.{Bytes, bytes}
use Rattle.definitions.specs.Limits.{standard}
use Rattle.definitions.specs.Json.{read_json}
use Rattle.definitions.specs.Plain.{decimal}
use Rattle.definitions.specs.Operations.{Done, finish, infer_judged}

-- "`refused N at P` and a line feed"
unfoldable pub refused_line : (number place : ℕ) → Bytes
refused_line n p = bytes "refused " ++ decimal n ++ bytes " at " ++ decimal p ++ bytes "\n"

-- what an operation wrote, or the line of its refusal
unfoldable pub told : Done → Bytes
told d =
    elim (eqb d.answer.number 0) [
      | true ↦ take d.answer.length d.output
      | false ↦ refused_line d.answer.number d.answer.place
    ]

-- "inferred from `(shape)`", into an output as long as a shape text may be; no work slice is short
unfoldable pub reply_to : (document : Bytes) → Bytes
reply_to document = told (finish (replicate 16384 0) (infer_judged read_json standard (bytes "(shape)") document))
