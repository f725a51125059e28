-- `shape_writer::is_deeper` meets its contract: the nesting left falls. The loop's invariant is `Descent`. Assumes nothing.
use native.Mathlib.Omega.{arith}
use Rattle.shape_writer.proofs.Depth.{descends, inner_standing, inner_some, inner_within, too_deep}
use Rattle.shape_writer.proofs.Depth.{descends_on, deep_enough, deeper_than_none, too_few, standing_within, standing_some}
use Rattle.shape_writer.proofs.+is_deeper.Goals as goal

pub returns-then-left-eq0 : goal.returns-then-left-eq0
returns-then-left-eq0 t c =
    record { told = deeper_than_none _ _ (omega (arith, c.if-left-eq0.true)) }

pub returns-then-size-left : goal.returns-then-size-left
returns-then-size-left t c =
    record { told = too_few c.size-size.ensures.read (omega (arith, c.if-size-left.true)) }

pub overflow_add-end : goal.overflow_add-end
overflow_add-end t c =
    omega (arith, c.size-size.ensures.read, standing_within c.requires)

pub overflow_add-i : goal.overflow_add-i
overflow_add-i t c =
    omega (arith, standing_some c.requires, standing_within c.requires)

pub loop-i-init : goal.loop-i-init
loop-i-init t c =
    descends _ _ _ c.size-size.ensures.read (omega (arith, c.if-left-eq0.false))

pub overflow_sub-left : goal.overflow_sub-left
overflow_sub-left t c =
    omega (arith, c.if-left-eq0.false)

pub is_deeper-requires : goal.is_deeper-requires
is_deeper-requires t c =
    (omega (arith, c.decreases, c.if-left-eq0.false), inner_standing c.loop-i.invariant c.loop-i-test.true c.requires)

pub returns-then-is_deeper : goal.returns-then-is_deeper
returns-then-is_deeper t c =
    record { told = too_deep c.loop-i.invariant c.loop-i-test.true c.is_deeper.ensures.told c.if-is_deeper.true }

pub overflow_add-i-in-loop-i : goal.overflow_add-i-in-loop-i
overflow_add-i-in-loop-i t c =
    omega (arith, c.size-i.ensures.read, inner_within c.loop-i.invariant c.loop-i-test.true c.requires)

pub loop-i-smaller : goal.loop-i-smaller
loop-i-smaller t c =
    omega (arith, c.size-i.ensures.read, inner_some c.loop-i.invariant c.loop-i-test.true c.requires, c.loop-i-test.true)

pub loop-i-preserved : goal.loop-i-preserved
loop-i-preserved t c =
    descends_on c.loop-i.invariant c.loop-i-test.true c.is_deeper.ensures.told
    c.if-is_deeper.false c.size-i.ensures.read

pub returns : goal.returns
returns t c =
    record { told = deep_enough c.loop-i.invariant c.loop-i-test.false }
