-- `running::rows::items_length` meets its contract. Assumes nothing.
use native.Mathlib.Omega.{arith}
use Rattle.running.proofs.Elements.{measuring, item_bounds, measure_on, measured}
use Rattle.running.proofs.rows.items_length.Goals as goal

pub loop-i-init : goal.loop-i-init
loop-i-init c = measuring _ _ _

pub overflow_add-length : goal.overflow_add-length
overflow_add-length c =
    omega (
      arith,
      (item_bounds c.args.results.now c.args.row c.args.end c.loop-i.invariant c.requires
          c.loop-i-test.true c.row_written.ensures.read).2,
    )

pub overflow_add-length-in-loop-i : goal.overflow_add-length-in-loop-i
overflow_add-length-in-loop-i c =
    omega (
      arith,
      (item_bounds c.args.results.now c.args.row c.args.end c.loop-i.invariant c.requires
          c.loop-i-test.true c.row_written.ensures.read).2,
    )

pub overflow_add-i : goal.overflow_add-i
overflow_add-i c =
    omega (
      arith,
      c.row_size-i.ensures.sized,
      (item_bounds c.args.results.now c.args.row c.args.end c.loop-i.invariant c.requires
          c.loop-i-test.true c.row_written.ensures.read).1,
    )

pub loop-i-smaller : goal.loop-i-smaller
loop-i-smaller c =
    omega (
      arith,
      c.row_size-i.ensures.sized,
      c.loop-i-test.true,
      (item_bounds c.args.results.now c.args.row c.args.end c.loop-i.invariant c.requires
          c.loop-i-test.true c.row_written.ensures.read).0,
    )

pub loop-i-preserved : goal.loop-i-preserved
loop-i-preserved c =
    measure_on c.args.results.now c.args.row c.args.end c.loop-i.invariant
    c.loop-i-test.true c.row_written.ensures.read c.row_size-i.ensures.sized

pub returns : goal.returns
returns c = record { measured = measured c.args.results.now c.args.row c.args.end c.loop-i.invariant c.loop-i-test.false }
