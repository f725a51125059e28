-- The invariant of the loop of `running::rows::copy_words`. Assumes nothing.
use Rattle.running.proofs.PutRows.{Copying}
use Rattle.running.proofs.rows.copy_words.Given as goal

abbrev pub invariant-loop-i : goal.invariant-loop-i
invariant-loop-i l = Copying l.initial.results l.to l.nodes l.from l.count l.results l.i
