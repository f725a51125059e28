-- The seven C calls: "hold the work slices themselves, as long as published, return the number, and write text, place,
-- length, steps and yes as five 8-byte little-endian words into an answer buffer". Assumes nothing.
use Rattle.std.specs.Prelude.{ℕ, zero, suc, ◌/◌, ◌%◌, Bool, true, false, List, [], ◌∷◌, ◌++◌, ltb, length, drop}
use Rattle.definitions.specs.declared.Limits.{Limits}
use Rattle.definitions.specs.declared.Answer.{Answer}
use Rattle.definitions.specs.Bytes.{Bytes}
use Rattle.definitions.specs.Operations.{Done, Source, plain_operation, infer_operation, join_operation}
use Rattle.definitions.specs.Operations.{below_operation, admits_operation, check_operation, run_operation}

-- the number returned, and the two buffers afterwards
pub record Called : Type 0 where
  pub number : ℕ
  pub answer : Bytes
  pub output : Bytes

-- the lowest so many bytes of a number, the lowest first
unfoldable pub little_endian : ℕ → ℕ → Bytes
little_endian zero n = []
little_endian (suc k) n = n % 256 ∷ little_endian k (n / 256)

-- a bool as a word: 1 or 0
unfoldable pub as_word : Bool → ℕ
as_word true = 1
as_word false = 0

-- "text, place, length, steps and yes as five 8-byte little-endian words"
unfoldable pub answer_words : Answer → Bytes
answer_words a =
    little_endian 8 a.text
    ++ little_endian 8 a.place
    ++ little_endian 8 a.length
    ++ little_endian 8 a.steps
    ++ little_endian 8 (as_word a.yes)

-- "one under 40 bytes .. stays unwritten"; bytes past the 40th are kept
unfoldable pub answered : (buffer : Bytes) → Answer → Bytes
answered buffer a = elim (ltb (length buffer) 40) [ true ↦ buffer | false ↦ answer_words a ++ drop 40 buffer ]

-- a call whose operation came to this
unfoldable pub call : (buffer : Bytes) → Done → Called
call buffer d = record { number = d.answer.number; answer = answered buffer d.answer; output = d.output }

-- a call without an output
unfoldable pub quiet : Answer → Done
quiet a = record { answer = a; output = [] }

-- "an answer buffer; one under 40 bytes is 1": it is judged as the one work slice that a call is lent
abbrev pub buffer_published : List ℕ
buffer_published = 40 ∷ []

abbrev pub buffer_lent : Bytes → List ℕ
buffer_lent buffer = length buffer ∷ []

-- runvestol_plain
unfoldable pub plain_call : Source → Limits → (document output buffer : Bytes) → Called
plain_call source l document output buffer =
    call buffer (plain_operation source buffer_published (buffer_lent buffer) l document output)

-- runvestol_infer
unfoldable pub infer_call : Source → Limits → (shape document output buffer : Bytes) → Called
infer_call source l shape document output buffer =
    call buffer (infer_operation source buffer_published (buffer_lent buffer) l shape document output)

-- runvestol_join
unfoldable pub join_call : Limits → (first second output buffer : Bytes) → Called
join_call l first second output buffer =
    call buffer (join_operation buffer_published (buffer_lent buffer) l first second output)

-- runvestol_below, which has no output
unfoldable pub below_call : Limits → (first second buffer : Bytes) → Called
below_call l first second buffer =
    call buffer (quiet (below_operation buffer_published (buffer_lent buffer) l first second))

-- runvestol_admits, which has no output
unfoldable pub admits_call : Source → Limits → (shape document buffer : Bytes) → Called
admits_call source l shape document buffer =
    call buffer (quiet (admits_operation source buffer_published (buffer_lent buffer) l shape document))

-- runvestol_check
unfoldable pub check_call : Limits → (reader shape output buffer : Bytes) → Called
check_call l reader shape output buffer =
    call buffer (check_operation buffer_published (buffer_lent buffer) l reader shape output)

-- runvestol_run
unfoldable pub run_call : Source → Limits → (reader document output buffer : Bytes) → Called
run_call source l reader document output buffer =
    call buffer (run_operation source buffer_published (buffer_lent buffer) l reader document output)
