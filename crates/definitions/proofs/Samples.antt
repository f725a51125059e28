-- The sample sheet of document 01 as one table: operations on texts, as the paper prints those that it prints, and what
-- they come to. Each row is proved by evaluating the definitions from bytes to bytes (`refl`). Assumes nothing.
use Rattle.std.specs.Prelude.{ℕ, ◌≡◌, refl, Bool, true, false, List, [], ◌∷◌, ◌++◌, length, drop, replicate}
use Prim.Native.String.{String}
use Rattle.definitions.specs.declared.Limits.{Limits}
use Rattle.definitions.specs.Limits.{standard}
use Rattle.definitions.specs.Bytes.{Bytes, bytes}
use Rattle.definitions.specs.Json.{read_json}
use Rattle.definitions.specs.Operations.{Done, refusal, written, said, plain_operation, infer_operation}
use Rattle.definitions.specs.Operations.{below_operation, admits_operation, check_operation, run_operation}
use Rattle.definitions.specs.Calls.{quiet}
use Rattle.definitions.specs.Evaluate.{evaluate}

-- ---- the operations on quoted texts, with an output of 200 bytes

abbrev room : Bytes
room = replicate 200 0xA5

abbrev plain : Limits → String → Done
plain l document = plain_operation read_json [] [] l (bytes document) room

abbrev infer : Limits → String → String → Done
infer l shape document = infer_operation read_json [] [] l (bytes shape) (bytes document) room

abbrev below : String → String → Done
below first second = quiet (below_operation [] [] standard (bytes first) (bytes second))

abbrev admits : String → String → Done
admits shape document = quiet (admits_operation read_json [] [] standard (bytes shape) (bytes document))

abbrev check : String → String → Done
check reader shape = check_operation [] [] standard (bytes reader) (bytes shape) room

abbrev run : String → String → Done
run reader document = run_operation read_json [] [] standard (bytes reader) (bytes document) room

-- ---- what they come to

-- success: this text at the front of the output, in so many steps
abbrev writes : String → (steps : ℕ) → Done
writes t n = record { answer = written (length (bytes t)) n false; output = bytes t ++ drop (length (bytes t)) room }

-- a refusal of a text at a place; the output is as it was
abbrev refuses : (number text place : ℕ) → Done
refuses n k p = record { answer = refusal n k p; output = room }

abbrev says : Bool → Done
says y = quiet (said y)

-- ---- texts that several rows use

abbrev s1_document : String
s1_document = "[{\"bay\":4,\"due\":null},{\"bay\":4.5},{\"due\":\"jan\"}]"

abbrev s6_shape : String
s6_shape = "(shape rec\n (member \"a\"\n  (shape int))\n (member \"b\"\n  (shape null text)))\n"

abbrev s7_reader : String
s7_reader = "(int (field \"bay\" (it 0)))"

abbrev lists_32 : String
lists_32 = "[[[[[[[[[[[[[[[[[[[[[[[[[[[[[[[[]]]]]]]]]]]]]]]]]]]]]]]]]]]]]]]]"

-- the smallest limits of request Q-6
abbrev smallest : Limits
smallest = record { bytes = 1024; values = 16; nesting = 4; steps = 256 }

-- ---- the table

-- what an operation came to, what the sheet says, and that they are the same
pub data Sample : Type 0 where
  sample : (got wanted : Done) → got ≡ wanted → Sample

pub sheet : List Sample
unfolding evaluate
sheet =
    -- S1
    sample
    (infer standard "(shape)" s1_document)
    (writes
    "(shape list\n (shape rec\n  (member \"bay\"\n   (shape null int dec))\n  (member \"due\"\n   (shape null text))))\n"
    0)
    refl
    -- S2
    ∷ sample
    (run "(each (it 0) (when null (field \"bay\" (it 0)) (num 0) (dec (it 0))))" s1_document)
    (writes "[4,4.5,0]" 16)
    refl
    -- S3
    ∷ sample (infer standard "(shape)" "[]") (writes "(shape list\n (shape))\n" 0) refl
    -- S4: the two shapes, then both directions
    ∷ sample (infer standard "(shape)" "{}") (writes "(shape rec)\n" 0) refl
    ∷ sample (infer standard "(shape)" "{\"a\":null}") (writes "(shape rec\n (member \"a\"\n  (shape null)))\n" 0) refl
    ∷ sample (below "(shape rec)\n" "(shape rec\n (member \"a\"\n  (shape null)))\n") (says true) refl
    ∷ sample (below "(shape rec\n (member \"a\"\n  (shape null)))\n" "(shape rec)\n") (says false) refl
    -- S5: three calls, each handed what the last one wrote
    ∷ sample (infer standard "(shape)\n" "5") (writes "(shape int)\n" 0) refl
    ∷ sample (infer standard "(shape int)\n" "null") (writes "(shape null int)\n" 0) refl
    ∷ sample (infer standard "(shape null int)\n" "2.5") (writes "(shape null int dec)\n" 0) refl
    -- S6: two calls, then what is not admitted
    ∷ sample (infer standard "(shape)\n" "{\"a\":1}") (writes "(shape rec\n (member \"a\"\n  (shape int)))\n" 0) refl
    ∷ sample (infer standard "(shape rec\n (member \"a\"\n  (shape int)))\n" "{\"a\":1,\"b\":\"s\"}") (writes s6_shape 0) refl
    ∷ sample (admits s6_shape "{\"a\":1,\"b\":7}") (says false) refl
    -- S7
    ∷ sample (check s7_reader "(shape rec (member \"bay\" (shape null int)))") (refuses 9 1 0) refl
    ∷ sample (run s7_reader "{\"bay\":4}") (writes "4" 3) refl
    ∷ sample (run s7_reader "{}") (refuses 12 1 0) refl
    -- S8
    ∷ sample (run "(count (it 0))" "null") (writes "0" 2) refl
    -- S9, and the trap behind it: taking out int leaves int and dec where dec is there
    ∷ sample (check "(when int (it 0) (yes) (int (it 0)))" "(shape int dec)") (refuses 9 1 23) refl
    ∷ sample (check "(when int (it 0) (none) (keep (it 0)))" "(shape int dec)") (writes "(shape null int dec)\n" 0) refl
    -- S10
    ∷ sample (plain standard lists_32) (writes lists_32 0) refl
    ∷ sample (plain standard "[[[[[[[[[[[[[[[[[[[[[[[[[[[[[[[[[]]]]]]]]]]]]]]]]]]]]]]]]]]]]]]]]]") (refuses 6 1 32) refl
    ∷ sample (infer standard "(shape)" lists_32) (refuses 11 0 0) refl
    -- S10 at a small set of limits, nesting 4 in place of 32
    ∷ sample (plain smallest "[[[[]]]]") (writes "[[[[]]]]" 0) refl
    ∷ sample (plain smallest "[[[[[]]]]]") (refuses 6 1 4) refl
    ∷ sample (infer smallest "(shape)" "[[[[]]]]") (refuses 11 0 0) refl
    -- S11
    ∷ sample (plain standard "0.123456789") (writes "0.123456789" 0) refl
    ∷ sample (plain standard "0.1234567891") (refuses 4 1 0) refl
    ∷ sample (plain standard "1000000000000000000") (refuses 4 1 0) refl
    -- S12
    ∷ sample (plain standard "{\"a\":1,\"\\u0061\":2}") (refuses 5 1 7) refl
    -- S13
    ∷ sample (plain standard "") (refuses 3 1 0) refl
    -- S14
    ∷ sample (plain standard "-0") (writes "0" 0) refl
    ∷ []
