-- A C call is its operation behind a prelude: 18 at limits out of range, 1 for an answer buffer under 40 bytes, and else what is judged of the texts. Of any
-- judgement, and so of every call. Assumes nothing.
use Rattle.std.specs.Prelude.{◌≤◌, ◌<◌, ◌≡◌, refl, Bool, true, false, ◌||◌, ltb, length, drop}
use Rattle.std.proofs.Common.{sym, ◌∙◌}
use Rattle.std.proofs.Math.Path.{ap}
use mathlib.Core.List.{[], ◌++◌}
use Rattle.definitions.specs.declared.Limits.{Limits}
use Rattle.definitions.specs.Limits.{in_range}
use Rattle.definitions.specs.Bytes.{Bytes}
use Rattle.definitions.specs.Operations.{Done, Judged, refusal, slices_short, prelude, TextOut, finish, say}
use Rattle.definitions.specs.Calls.{answer_words, answered, call, quiet, buffer_published, buffer_lent}
use Rattle.laws.specs.Tests.{ltb_lt, ltb_le, lt-ltb, le-ltb}
use Rattle.laws.specs.Judging.{prelude_out, prelude_short, prelude_long}
use Rattle.laws.specs.AnswerWordsRead.{answered_long, answered_short}

or_nothing : (b : Bool) → (b || false) ≡ b
or_nothing true = refl
or_nothing false = refl

-- the answer buffer is the one slice that a call is lent
pub lent_as : (buffer : Bytes) → slices_short buffer_published (buffer_lent buffer) ≡ ltb (length buffer) 40
unfolding slices_short
lent_as buffer = or_nothing (ltb (length buffer) 40)

pub lent_short : (buffer : Bytes) → length buffer < 40 → slices_short buffer_published (buffer_lent buffer) ≡ true
lent_short buffer h = lent_as buffer ∙ lt-ltb (length buffer) 40 h

pub lent_long : (buffer : Bytes) → 40 ≤ length buffer → slices_short buffer_published (buffer_lent buffer) ≡ false
lent_long buffer h = lent_as buffer ∙ le-ltb (length buffer) 40 h

pub short_lent : (buffer : Bytes) → slices_short buffer_published (buffer_lent buffer) ≡ true → length buffer < 40
short_lent buffer e = ltb_lt (length buffer) 40 (sym (lent_as buffer) ∙ e)

pub long_lent : (buffer : Bytes) → slices_short buffer_published (buffer_lent buffer) ≡ false → 40 ≤ length buffer
long_lent buffer e = ltb_le (length buffer) 40 (sym (lent_as buffer) ∙ e)

-- what any operation came to, in a long enough buffer
pub call_long
    : (buffer : Bytes) (d : Done) → 40 ≤ length buffer
    → call buffer d ≡ record { number = d.answer.number; answer = answer_words d.answer ++ drop 40 buffer; output = d.output }
unfolding call
call_long buffer d h =
    ap (λ (b : Bytes). record { number = d.answer.number; answer = b; output = d.output }) (answered_long buffer d.answer h)

-- a short one is 1 and stays unwritten, and so does the output
pub call_short
    : (buffer : Bytes) (d : Done) → length buffer < 40
    → call buffer d ≡ record { number = d.answer.number; answer = buffer; output = d.output }
unfolding call
call_short buffer d h =
    ap (λ (b : Bytes). record { number = d.answer.number; answer = b; output = d.output })
    (answered_short buffer d.answer (lt-ltb (length buffer) 40 h))

module _ (l : Limits) (buffer output : Bytes) (j : Judged TextOut) where
  -- at limits out of range
  pub writes_out
      : in_range l ≡ false
      → call buffer (finish output (prelude l buffer_published (buffer_lent buffer) j))
      ≡ record { number = 18; answer = answered buffer (refusal 18 0 0); output = output }
  unfolding call finish refusal
  writes_out r = ap (λ (m : Judged TextOut). call buffer (finish output m)) (prelude_out l buffer_published (buffer_lent buffer) j r)

  pub writes_short
      : in_range l ≡ true → length buffer < 40
      → call buffer (finish output (prelude l buffer_published (buffer_lent buffer) j)) ≡ record { number = 1; answer = buffer; output = output }
  unfolding finish refusal
  writes_short r h =
      call_short buffer (finish output (prelude l buffer_published (buffer_lent buffer) j)) h
      ∙ ap (λ (m : Judged TextOut). record { number = (finish output m).answer.number; answer = buffer; output = (finish output m).output })
      (prelude_short l buffer_published (buffer_lent buffer) j r (lent_short buffer h))

  pub writes_long
      : in_range l ≡ true → 40 ≤ length buffer
      → call buffer (finish output (prelude l buffer_published (buffer_lent buffer) j))
      ≡ record {
        number = (finish output j).answer.number;
        answer = answer_words (finish output j).answer ++ drop 40 buffer;
        output = (finish output j).output;
      }
  writes_long r h =
      ap (λ (m : Judged TextOut). call buffer (finish output m)) (prelude_long l buffer_published (buffer_lent buffer) j r (lent_long buffer h))
      ∙ call_long buffer (finish output j) h

module _ (l : Limits) (buffer : Bytes) (j : Judged Bool) where
  pub says_out
      : in_range l ≡ false
      → call buffer (quiet (say (prelude l buffer_published (buffer_lent buffer) j)))
      ≡ record { number = 18; answer = answered buffer (refusal 18 0 0); output = [] }
  unfolding call quiet say refusal
  says_out r = ap (λ (m : Judged Bool). call buffer (quiet (say m))) (prelude_out l buffer_published (buffer_lent buffer) j r)

  pub says_short
      : in_range l ≡ true → length buffer < 40
      → call buffer (quiet (say (prelude l buffer_published (buffer_lent buffer) j))) ≡ record { number = 1; answer = buffer; output = [] }
  unfolding say refusal quiet
  says_short r h =
      call_short buffer (quiet (say (prelude l buffer_published (buffer_lent buffer) j))) h
      ∙ ap (λ (m : Judged Bool). record { number = (say m).number; answer = buffer; output = [] })
      (prelude_short l buffer_published (buffer_lent buffer) j r (lent_short buffer h))

  pub says_long
      : in_range l ≡ true → 40 ≤ length buffer
      → call buffer (quiet (say (prelude l buffer_published (buffer_lent buffer) j)))
      ≡ record { number = (say j).number; answer = answer_words (say j) ++ drop 40 buffer; output = [] }
  unfolding quiet
  says_long r h =
      ap (λ (m : Judged Bool). call buffer (quiet (say m))) (prelude_long l buffer_published (buffer_lent buffer) j r (lent_long buffer h))
      ∙ call_long buffer (quiet (say j)) h
