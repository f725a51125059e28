-- The proof of the cycle of calls {read_parts, read_result}. The nesting left falls: a result's measure is twice what is left, and that of
-- its parts, whose results have one less, lies between. The loop's invariant says what has been read of the results: `PartsGone`.
-- Assumes nothing.
use mathlib.Core.Path.{subst}
use native.Mathlib.Omega.{arith}
use Rattle.std.specs.Prelude.{Ok}
use Rattle.reading.proofs.Passed.{passed}
use Rattle.form_reader.specs.declared.parts.Turn.{Turn}
use Rattle.form_reader.specs.FormParts.{Turns, ReadsResult, ReadsParts}
use Rattle.form_reader.proofs.ResultReading.{none_gone, next_known, turned, part_begun, part_ahead, part_ready, part_refused, part_gone}
use Rattle.form_reader.proofs.ResultReading.{part_further, part_within, head_refused, parts_ready, parts_refused, row_bounds, result_read}
use Rattle.form_reader.proofs.results.+read_parts_read_result.Goals as goal

pub read_parts-loop-turn-init : goal.read_parts-loop-turn-init
read_parts-loop-turn-init t c = λ lead e. none_gone c.args.c c.requires lead e c.parts_of-more.ensures.told

pub read_parts-next_part-requires : goal.read_parts-next_part-requires
read_parts-next_part-requires t c = next_known c.args.c c.requires c.requires.coded (c.loop-turn.invariant c.requires.lead c.requires.coded)

pub read_parts-returns-in_err-turn : goal.read_parts-returns-in_err-turn
read_parts-returns-in_err-turn t c =
    record {
      read = λ lead e.
          passed
          (ReadsParts lead c.args.left c.args.values c.args.bound c.args.text.now c.args.forms.now c.args.pool.now c.loop-turn.forms
          c.next_part.new.pool c.args.c)
          c.from_residual.ensures (turned c.args.c c.requires e (c.loop-turn.invariant lead e) c.in_err-turn.ensures.read);
    }

pub read_parts-read_result-requires : goal.read_parts-read_result-requires
read_parts-read_result-requires t c = (
  omega (arith, c.decreases),
  part_ready c.requires.lead c.args.c c.in-More.from c.requires c.requires.coded c.inner_bound-inner.ensures.told
      (part_begun c.args.c c.requires c.requires.coded (c.loop-turn.invariant c.requires.lead c.requires.coded) c.in_ok-turn.ensures.read c.in-More.is),
)

pub read_parts-returns-in_err-to-in-More : goal.read_parts-returns-in_err-to-in-More
read_parts-returns-in_err-to-in-More t c =
    record {
      read = λ lead e.
          passed
          (ReadsParts lead c.args.left c.args.values c.args.bound c.args.text.now c.args.forms.now c.args.pool.now c.read_result.new.forms
          c.read_result.new.pool c.args.c)
          c.from_residual-in_err-to-in-More.ensures
          (part_refused lead c.args.c c.in-More.from c.requires e c.inner_bound-inner.ensures.told
          (part_begun c.args.c c.requires e (c.loop-turn.invariant lead e) c.in_ok-turn.ensures.read c.in-More.is) c.in_err-to-in-More.ensures.read);
    }

pub read_parts-loop-turn-smaller : goal.read_parts-loop-turn-smaller
read_parts-loop-turn-smaller t c =
    omega (
      arith,
      part_ahead c.args.c c.requires c.requires.coded (c.loop-turn.invariant c.requires.lead c.requires.coded) c.in_ok-turn.ensures.read c.in-More.is,
      part_further c.requires.lead c.args.c c.in-More.from c.requires c.requires.coded c.inner_bound-inner.ensures.told
          (part_begun c.args.c c.requires c.requires.coded (c.loop-turn.invariant c.requires.lead c.requires.coded)
          c.in_ok-turn.ensures.read c.in-More.is) c.in_ok-to-in-More.ensures.read,
      part_within c.requires.lead c.args.c c.in-More.from c.requires c.requires.coded c.inner_bound-inner.ensures.told
          (part_begun c.args.c c.requires c.requires.coded (c.loop-turn.invariant c.requires.lead c.requires.coded)
          c.in_ok-turn.ensures.read c.in-More.is) c.in_ok-to-in-More.ensures.read,
    )

pub read_parts-loop-turn-preserved : goal.read_parts-loop-turn-preserved
read_parts-loop-turn-preserved t c =
    λ lead e. part_gone lead c.args.c c.in-More.from c.requires e c.inner_bound-inner.ensures.told
    (part_begun c.args.c c.requires e (c.loop-turn.invariant lead e) c.in_ok-turn.ensures.read c.in-More.is) c.in_ok-to-in-More.ensures.read

pub read_parts-returns-in-End : goal.read_parts-returns-in-End
read_parts-returns-in-End t c =
    record {
      read = λ lead e.
          turned c.args.c c.requires e (c.loop-turn.invariant lead e)
          (subst
          (λ (u : Turn).
          Turns c.args.text.now c.loop-turn.forms c.loop-turn.pool c.next_part.new.pool c.args.code c.loop-turn.more c.args.c.begun c.loop-turn.to (Ok u))
          c.in-End.is c.in_ok-turn.ensures.read);
    }

pub read_result-returns-in_err-head : goal.read_result-returns-in_err-head
read_result-returns-in_err-head t c =
    record {
      read =
          passed
          (ReadsResult c.args.left c.args.values c.args.bound c.args.text.now c.args.forms.now c.args.pool.now c.read_lead.new.forms
          c.read_lead.new.pool c.args.name c.args.c)
          c.from_residual.ensures (head_refused c.args.name c.args.c c.requires c.in_err-head.ensures.read);
    }

pub read_result-read_parts-requires : goal.read_result-read_parts-requires
read_result-read_parts-requires t c = (
  omega (arith, c.decreases, c.in_ok-head.ensures.read.answer.nested),
  parts_ready c.args.name c.args.c c.requires c.in_ok-head.ensures.read,
)

pub read_result-returns-in_err-to : goal.read_result-returns-in_err-to
read_result-returns-in_err-to t c =
    record {
      read =
          passed
          (ReadsResult c.args.left c.args.values c.args.bound c.args.text.now c.args.forms.now c.args.pool.now c.read_parts.new.forms
          c.read_parts.new.pool c.args.name c.args.c)
          c.from_residual-in_err-to.ensures (parts_refused c.args.name c.args.c c.requires c.in_ok-head.ensures.read c.in_err-to.ensures.read);
    }

pub read_result-overflow_sub-size : goal.read_result-overflow_sub-size
read_result-overflow_sub-size t c = omega (arith, (row_bounds c.args.name c.args.c c.requires c.in_ok-head.ensures.read c.in_ok-to.ensures.read).0)

pub read_result-overflow_mul-size : goal.read_result-overflow_mul-size
read_result-overflow_mul-size t c = omega (arith, (row_bounds c.args.name c.args.c c.requires c.in_ok-head.ensures.read c.in_ok-to.ensures.read).1)

pub read_result-put_row-requires : goal.read_result-put_row-requires
read_result-put_row-requires t c =
    let f = row_bounds c.args.name c.args.c c.requires c.in_ok-head.ensures.read c.in_ok-to.ensures.read in
    record { row_in_bounds = f.2; fits = omega (arith, f.1, f.3, f.4, f.5) }

pub read_result-returns : goal.read_result-returns
read_result-returns t c = record { read = result_read c.args.name c.args.c c.requires c.in_ok-head.ensures.read c.in_ok-to.ensures.read c.put_row.ensures.put }
