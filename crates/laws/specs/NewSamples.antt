-- Request Q-13, stated: what `below` answers to, and how a check may end against a shape above one that the reader passed against.
-- Assumes nothing.
use Rattle.std.specs.Prelude.{ℕ, ◌<◌, ◌≡◌, Bool, true, List, length}
use Rattle.definitions.specs.declared.Limits.{Limits}
use Rattle.definitions.specs.Bytes.{Bytes}
use Rattle.definitions.specs.Operations.{said, below_operation}
use Rattle.definitions.specs.Calls.{below_call}
use Rattle.laws.specs.AnswerWords.{word_at}

-- the operation `below` answers yes
abbrev pub SaysBelow : (published lent : List ℕ) → Limits → (first second : Bytes) → Type 0
SaysBelow published lent l first second = below_operation published lent l first second ≡ said true

-- the C call answers yes: it returns 0, and the host reads 1 from the answer's fifth word
abbrev pub CallsBelow : Limits → (first second buffer : Bytes) → Type 0
CallsBelow l first second buffer =
    ((below_call l first second buffer).number ≡ 0) × (word_at 4 (below_call l first second buffer).answer ≡ 1)

-- the number that check comes to against a shape, of a reader that passed against one below it: 0, 9 or 11, or by what is lent 1 or 15. It is
-- not 10, and none of 2 to 8 and 18 either
pub data NumberAbove (short : Bool) (l : Limits) (output : Bytes) : ℕ → Type 0 where
  passes : NumberAbove short l output 0
  kind_not_wanted : NumberAbove short l output 9
  too_large : NumberAbove short l output 11
  -- a work slice, or the answer buffer
  short_slices : short ≡ true → NumberAbove short l output 1
  -- an output of as many bytes as the set allows a text is never short
  short_output : length output < l.bytes → NumberAbove short l output 15
