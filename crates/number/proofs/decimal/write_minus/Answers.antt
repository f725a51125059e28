-- `number::decimal::write_minus` meets its contract. Assumes nothing.
use native.Mathlib.Omega.{arith}
use Prim.Native.Nat.{◌+◌, ◌≤◌, ◌<◌}
use mathlib.Core.Path.{sym}
use lib.ListN.{length}
use Rattle.definitions.specs.Bytes.{bytes}
use Rattle.definitions.specs.Plain.{minus}
use Rattle.number.proofs.Writing.{written_none, written_one}
use Rattle.number.proofs.decimal.write_minus.Goals as goal

room : (c : goal.Then-negative) → c.args.at < length c.args.out.now
unfolding minus bytes
room c =
    let h : c.args.at + 1 ≤ length c.args.out.now = rw c.if-negative.true at c.requires in
    omega arith

pub returns-then-negative : goal.returns-then-negative
unfolding minus bytes
returns-then-negative c = rw c.if-negative.true (written_one _ _ _ (room c))

pub returns-else-negative : goal.returns-else-negative
unfolding minus
returns-else-negative c = rw c.if-negative.false (sym (written_none _ c.args.at))

pub bounds-out-at : goal.bounds-out-at
bounds-out-at c =
    room c
