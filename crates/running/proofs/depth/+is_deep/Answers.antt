-- The proof of `is_deep`, which calls itself with less nesting left. The loop's invariant: the value is deep where what is left of its parts is.
-- Assumes nothing.
use native.Mathlib.Omega.{arith}
use Rattle.running.proofs.Depths.{no_nesting_left, single_flat, value_bounds, value_some, looking, part_value, part_deep, part_flat, all_flat}
use Rattle.running.proofs.depth.+is_deep.Goals as goal

pub returns-then-left-eq0 : goal.returns-then-left-eq0
returns-then-left-eq0 t c =
    record { told = no_nesting_left c.if-left-eq0.true }

pub returns-then-row_kind-lt-LIST : goal.returns-then-row_kind-lt-LIST
returns-then-row_kind-lt-LIST t c =
    record { told = single_flat c.if-left-eq0.false c.row_kind.ensures.read c.if-row_kind-lt-LIST.true }

pub overflow_add-end : goal.overflow_add-end
overflow_add-end t c =
    omega (arith, c.row_size.ensures.sized, (value_bounds c.requires).0)

pub overflow_add-i : goal.overflow_add-i
overflow_add-i t c =
    omega (arith, (value_bounds c.requires).1)

pub loop-i-init : goal.loop-i-init
loop-i-init t c =
    looking c.args.nodes.now c.args.at c.args.left c.row_kind.ensures.read c.if-row_kind-lt-LIST.false

pub overflow_sub-left : goal.overflow_sub-left
overflow_sub-left t c =
    omega (arith, c.if-left-eq0.false)

pub is_deep-requires : goal.is_deep-requires
is_deep-requires t c = (
  omega (arith, c.decreases, c.if-left-eq0.false),
  part_value c.args.nodes.now c.args.at c.args.left c.loop-i.invariant c.requires
      (omega (arith, c.loop-i-test.true, c.row_size.ensures.sized)),
)

pub returns-then-is_deep : goal.returns-then-is_deep
returns-then-is_deep t c =
    record {
      told = part_deep c.args.nodes.now c.args.at c.args.left c.loop-i.invariant c.is_deep.ensures.told
          (omega (arith, c.loop-i-test.true, c.row_size.ensures.sized)) c.if-is_deep.true
          c.if-left-eq0.false;
    }

pub overflow_add-i-in-loop-i : goal.overflow_add-i-in-loop-i
overflow_add-i-in-loop-i t c =
    omega (
      arith,
      c.row_size-i.ensures.sized,
      (value_bounds (part_value c.args.nodes.now c.args.at c.args.left c.loop-i.invariant c.requires
          (omega (arith, c.loop-i-test.true, c.row_size.ensures.sized)))).0,
    )

pub loop-i-smaller : goal.loop-i-smaller
loop-i-smaller t c =
    omega (
      arith,
      c.row_size-i.ensures.sized,
      c.loop-i-test.true,
      value_some (part_value c.args.nodes.now c.args.at c.args.left c.loop-i.invariant c.requires
          (omega (arith, c.loop-i-test.true, c.row_size.ensures.sized))),
    )

pub loop-i-preserved : goal.loop-i-preserved
loop-i-preserved t c =
    part_flat c.args.nodes.now c.args.at c.args.left c.loop-i.invariant c.is_deep.ensures.told
    (omega (arith, c.loop-i-test.true, c.row_size.ensures.sized)) c.if-is_deep.false c.if-left-eq0.false
    c.row_size-i.ensures.sized

pub returns : goal.returns
returns t c =
    record {
      told = all_flat c.args.nodes.now c.args.at c.args.left c.loop-i.invariant
          (omega (arith, c.loop-i-test.false, c.row_size.ensures.sized)) c.if-left-eq0.false;
    }
