-- `join::adds_nothing` meets its contract. Assumes nothing.
use mathlib.Core.Bool.{false≢true}
use Rattle.join.proofs.Answers.{untrue}
use Rattle.join.proofs.Idle.{told_idle}
use Rattle.join.proofs.adds_nothing.Goals as goal
use Rattle.join.proofs.adds_nothing.Goals.{then-not-has, else-not-has}

pub returns-then-not-has-2 : goal.returns-then-not-has-2
returns-then-not-has-2 c =
    record {
      told = λ e. elim c.if-not-has.branch [
        | then-not-has w ↦ told_idle c.kinds-kinds.ensures.read c.kinds.ensures.read w.if-not-has.ensures.told
            (untrue w.value-is c.if-not-has-2.true w.has-then-not-has.ensures.told) c.is_within.ensures.told e
        | else-not-has w ↦ absurd (false≢true (untrue w.value-is c.if-not-has-2.true w.if-not-has.false))
      ];
    }
