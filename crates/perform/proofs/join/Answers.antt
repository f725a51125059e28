-- `perform::join` meets its contract. Assumes nothing.
use native.Mathlib.Omega.{arith}
use Rattle.definitions.specs.Operations.{join_judged}
use Rattle.laws.specs.Ends.{finishes_stopped, finishes_passed}
use Rattle.inputs.specs.InputsLaws.{both_passes, both_refused}
use Rattle.perform.proofs.Walks.{shape_texts, room_beside_shape, joinable, joined}
use Rattle.perform.proofs.join.Goals as goal

pub two_shapes-requires : goal.two_shapes-requires
two_shapes-requires c =
    shape_texts c.requires.grown_shapes_slices

pub join_at-grown-requires : goal.join_at-grown-requires
join_at-grown-requires c =
    let b = both_passes c.two_shapes.ensures.judged c.in-Ok.is in
    joinable b.held (omega (arith, c.requires.table, c.shapes-1.given))

pub deliver_grown-requires : goal.deliver_grown-requires
deliver_grown-requires c =
    let b = both_passes c.two_shapes.ensures.judged c.in-Ok.is in
    record {
      shape = _;
      grows =
          joined b.held _ c.join_at-grown.result (omega (arith, room_beside_shape c.requires.grown_shapes_slices, c.shapes-1.given))
          c.join_at-grown.ensures.joined;
      small = omega (arith, c.requires.table, c.type_inv, c.shapes-1.given, c.shapes-in-Ok-1.given);
    }

pub returns-in-Ok : goal.returns-in-Ok
unfolding join_judged
returns-in-Ok c =
    let b = both_passes c.two_shapes.ensures.judged c.in-Ok.is in
    let g = joined b.held _ c.join_at-grown.result (omega (arith, room_beside_shape c.requires.grown_shapes_slices, c.shapes-1.given))
    c.join_at-grown.ensures.joined in
    let facts = finishes_passed c.args.output.now _ b.judged (c.deliver_grown.ensures.answered _ g, c.deliver_grown.ensures.written _ g) in
    record { answered = facts.0; written = facts.1 }

pub returns-in-Err : goal.returns-in-Err
unfolding join_judged
returns-in-Err c = let facts = finishes_stopped c.args.output.now _ c.refused.ensures.set (both_refused c.two_shapes.ensures.judged c.in-Err.is) in
    record { answered = facts.0; written = facts.1 }
