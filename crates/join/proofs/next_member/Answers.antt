-- `join::next_member` meets its contract. Assumes nothing.
use Rattle.join.proofs.Walks.{none_theirs, none_ours, one_name, compared}
use Rattle.join.proofs.next_member.Goals as goal

pub returns-then-to-other : goal.returns-then-to-other
returns-then-to-other c = record { told = λ p fs gs w l. none_theirs fs gs w l c.if-to-other.true }

pub returns-then-end-row : goal.returns-then-end-row
returns-then-end-row c = record { told = λ p fs gs w l. none_ours fs gs w l c.if-end-row.true }

pub returns-then-k-m : goal.returns-then-k-m
returns-then-k-m c =
    record { told = λ p fs gs w l. one_name c.name-k.ensures.read c.name-m.ensures.read c.if-k-m.true c.if-end-row.false c.if-to-other.false fs gs w }

pub returns : goal.returns
returns c =
    record {
      told = λ p fs gs w l. compared
          _
          c.name-k.ensures.read
          c.name-m.ensures.read
          c.compare_names.ensures.compared
          c.if-end-row.false
          c.if-to-other.false
          fs
          gs
          w;
    }
