-- `running::rows::members_length` meets its contract. Assumes nothing.
use native.Mathlib.Omega.{arith}
use mathlib.Core.Path.{refl}
use Rattle.running.proofs.Named.{measuring, some_name, member_bounds, measure_on, measured}
use Rattle.running.proofs.rows.members_length.Goals as goal

pub loop-i-init : goal.loop-i-init
loop-i-init c = measuring _ _ _ _

pub name_length-requires : goal.name_length-requires
name_length-requires c =
    some_name c.args.results.now c.args.pool.now c.args.row c.args.end c.loop-i.invariant
    c.requires c.loop-i-test.true

pub overflow_add-length : goal.overflow_add-length
overflow_add-length c =
    omega (
      arith,
      (member_bounds c.args.results.now c.args.pool.now c.args.row c.args.end c.loop-i.invariant
          c.requires c.loop-i-test.true refl c.name_length.ensures.measured).2,
    )

pub overflow_add-length-in-loop-i : goal.overflow_add-length-in-loop-i
overflow_add-length-in-loop-i c =
    omega (
      arith,
      (member_bounds c.args.results.now c.args.pool.now c.args.row c.args.end
          c.loop-i.invariant c.requires c.loop-i-test.true c.row_written.ensures.read
          c.name_length.ensures.measured).2,
    )

pub overflow_add-length-in-loop-i-2 : goal.overflow_add-length-in-loop-i-2
overflow_add-length-in-loop-i-2 c =
    omega (
      arith,
      (member_bounds c.args.results.now c.args.pool.now c.args.row c.args.end
          c.loop-i.invariant c.requires c.loop-i-test.true c.row_written.ensures.read
          c.name_length.ensures.measured).2,
    )

pub overflow_add-i : goal.overflow_add-i
overflow_add-i c =
    omega (
      arith,
      c.row_size-i.ensures.sized,
      (member_bounds c.args.results.now c.args.pool.now c.args.row c.args.end c.loop-i.invariant
          c.requires c.loop-i-test.true c.row_written.ensures.read c.name_length.ensures.measured).1,
    )

pub loop-i-smaller : goal.loop-i-smaller
loop-i-smaller c =
    omega (
      arith,
      c.row_size-i.ensures.sized,
      c.loop-i-test.true,
      (member_bounds c.args.results.now c.args.pool.now c.args.row c.args.end c.loop-i.invariant
          c.requires c.loop-i-test.true c.row_written.ensures.read c.name_length.ensures.measured).0,
    )

pub loop-i-preserved : goal.loop-i-preserved
loop-i-preserved c =
    measure_on c.args.results.now c.args.pool.now c.args.row c.args.end c.loop-i.invariant
    c.loop-i-test.true c.row_written.ensures.read c.name_length.ensures.measured c.row_size-i.ensures.sized

pub returns : goal.returns
returns c = record { measured = measured c.args.results.now c.args.pool.now c.args.row c.args.end c.loop-i.invariant c.loop-i-test.false }
