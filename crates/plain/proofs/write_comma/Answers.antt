-- `plain::write_comma` meets its contract. Assumes nothing.
use mathlib.Core.Path.{sym, ap}
use native.Mathlib.Omega.{arith}
use Rattle.definitions.specs.Bytes.{bytes}
use Rattle.plain.specs.Parts.{comma}
use Rattle.plain.proofs.Writing.{writes_none, writes_byte, writes_as}
use Rattle.plain.proofs.write_comma.Goals as goal

pub bounds-out-at : goal.bounds-out-at
unfolding comma bytes
bounds-out-at c = omega (arith, rw c.if-later.true at c.requires)

pub returns-then-later : goal.returns-then-later
unfolding comma bytes
returns-then-later c = record { written = writes_as (ap comma (sym c.if-later.true)) (writes_byte _ _ 44 (bounds-out-at c)) }

pub returns : goal.returns
unfolding comma
returns c = record { written = writes_as (ap comma (sym c.if-later.false)) (writes_none _ _) }
