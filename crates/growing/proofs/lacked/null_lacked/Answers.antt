-- `growing::lacked::null_lacked` meets its contract. The loop's invariant is `NullsLoop`. Assumes nothing.
use native.Mathlib.Omega.{arith}
use Rattle.growing.specs.NullLaws.{loop_begins, loop_listed, loop_step, loop_on, loop_ends}
use Rattle.growing.proofs.lacked.null_lacked.Goals as goal

pub loop-row-init : goal.loop-row-init
loop-row-init g c = loop_begins _ _ _ _ _ _ c.requires.room.enough

pub null_member-requires : goal.null_member-requires
null_member-requires g c =
    record {
      listed_held = loop_listed c.loop-row.invariant c.loop-row-test.true c.requires.nullable;
      room = record {
        enough = omega (arith, c.requires.room.enough, c.loop-row.invariant.same);
        small = omega (arith, c.requires.room.small, c.loop-row.invariant.same);
      };
    }

pub overflow_add-row : goal.overflow_add-row
overflow_add-row g c =
    let w = loop_step c.loop-row.invariant c.loop-row-test.true
    c.null_member.ensures.nulled c.size-row.ensures.read c.requires.nullable in
    omega (arith, w.0, c.requires.nullable.meets.within, c.requires.room.enough, c.requires.room.small)

pub loop-row-smaller : goal.loop-row-smaller
loop-row-smaller g c =
    let w = loop_step c.loop-row.invariant c.loop-row-test.true c.null_member.ensures.nulled
    c.size-row.ensures.read c.requires.nullable in
    omega (arith, w.0, w.1, c.loop-row-test.true)

pub loop-row-preserved : goal.loop-row-preserved
loop-row-preserved g c =
    loop_on c.loop-row.invariant c.loop-row-test.true
    c.null_member.ensures.nulled c.size-row.ensures.read c.null_member.auto.shapes

pub shape_of-shapes : goal.shape_of-shapes
shape_of-shapes g c = c.loop-row.invariant.same

pub returns : goal.returns
returns g c = record { nulled = loop_ends c.loop-row.invariant c.loop-row-test.false c.requires.room.enough }
