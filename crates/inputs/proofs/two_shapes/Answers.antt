-- `inputs::two_shapes` meets its contract. Assumes nothing.
use Rattle.definitions.specs.ShapeText.{read_shape}
use Rattle.inputs.proofs.Pairs.{first_refused, first_passes, room_for_first, room_for_second, second_refused, second_passes}
use Rattle.reading.proofs.Passed.{passed}
use Rattle.inputs.specs.Inputs.{JudgesBoth, TwoShapesHeld}
use Rattle.inputs.proofs.Mapped.{read_in, refused_in}
use Rattle.inputs.proofs.two_shapes.Goals as goal

pub first_shape-requires : goal.first_shape-requires
first_shape-requires c = room_for_first c.requires

pub read_shape-requires : goal.read_shape-requires
read_shape-requires c =
    let e = read_in 1 c.first_shape.result c.map_err.ensures.cases c.in_ok-first.was in
    room_for_second c.requires _ c.in_ok-first.first.top c.first_shape.auto.pool (c.first_shape.ensures.judged.low _ e)

pub returns-in_err-first : goal.returns-in_err-first
returns-in_err-first c =
    let a = c.args in
    record {
      judged = passed
          (JudgesBoth a.limits read_shape a.one.now read_shape a.other.now
          (TwoShapesHeld a.limits c.first_shape.new.shapes a.others.now c.first_shape.new.pool))
          c.from_residual.ensures
          (record {
            answer = refused_in 1 c.first_shape.result c.map_err.ensures.cases c.in_err-first.was
                (λ q e. first_refused c.first_shape.ensures.judged read_shape a.other.now e);
          });
    }

pub returns-in_err-second : goal.returns-in_err-second
returns-in_err-second c =
    let a = c.args in
    let e = read_in 1 c.first_shape.result c.map_err.ensures.cases c.in_ok-first.was in
    let f = first_passes c.first_shape.ensures.judged e in
    record {
      judged = passed
          (JudgesBoth a.limits read_shape a.one.now read_shape a.other.now
          (TwoShapesHeld a.limits c.first_shape.new.shapes c.read_shape.new.shapes c.read_shape.new.pool))
          c.from_residual-in_err-second.ensures
          (record {
            answer = refused_in 2 c.read_shape.result c.map_err-2.ensures.cases c.in_err-second.was
                (λ q g. second_refused f a.other.now c.read_shape.ensures.judged g);
          });
    }

pub returns : goal.returns
returns c =
    let a = c.args in
    let e = read_in 1 c.first_shape.result c.map_err.ensures.cases c.in_ok-first.was in
    let g = read_in 2 c.read_shape.result c.map_err-2.ensures.cases c.in_ok-second.was in
    let f = first_passes c.first_shape.ensures.judged e in
    record { judged = record { answer = rw c.both.ensures (second_passes f a.other.now c.read_shape.ensures.judged g) } }
