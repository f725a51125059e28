-- The invariant of the loop of `text::pieces::put_bytes`. Assumes nothing.
use lib.ListN.{take}
use Rattle.text.specs.TextParts.{Puts}
use Rattle.text.proofs.pieces.put_bytes.Given as goal

abbrev pub invariant-loop-i : goal.invariant-loop-i
invariant-loop-i l = Puts l.initial.pool l.pool l.w l.n (take l.i l.bytes)
