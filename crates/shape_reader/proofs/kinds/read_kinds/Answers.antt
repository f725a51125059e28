-- `shape_reader::kinds::read_kinds` meets its contract. Assumes nothing.
use native.Mathlib.Omega.{arith}
use Rattle.shape_reader.proofs.KindSets.{held_small}
use Rattle.shape_reader.proofs.KindReading.{no_kinds, one_kind, no_kind_word, kinds_end}
use Rattle.shape_reader.proofs.kinds.read_kinds.Goals as goal

pub loop-word-init : goal.loop-word-init
loop-word-init c = no_kinds c.requires

pub returns-then-not-may_come : goal.returns-then-not-may_come
returns-then-not-may_come c =
    record {
      read = no_kind_word c.loop-word.invariant c.in-Ok.ensures.read.answer c.kind_of-kind.ensures.told c.if-not-may_come.ensures.told
          c.misplaced.ensures.place c.misplaced.ensures.cause;
    }

pub overflow_add-kinds : goal.overflow_add-kinds
overflow_add-kinds c =
    omega (
      arith,
      held_small (one_kind c.loop-word.invariant c.in-Ok.ensures.read.answer c.kind_of-kind.ensures.told c.if-not-may_come.ensures.told).held,
    )

pub loop-word-preserved : goal.loop-word-preserved
loop-word-preserved c =
    one_kind c.loop-word.invariant c.in-Ok.ensures.read.answer c.kind_of-kind.ensures.told c.if-not-may_come.ensures.told

pub returns : goal.returns
returns c = record { read = record { answer = kinds_end c.loop-word.invariant c.in_default.ensures.read.answer.lacks } }
