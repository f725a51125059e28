-- `inputs::shape_document` meets its contract. Assumes nothing.
use Rattle.definitions.specs.Operations.{source}
use Rattle.definitions.specs.ShapeText.{read_shape}
use Rattle.inputs.proofs.Pairs.{first_refused, first_passes, room_for_shape, room_for_document, document_refused, document_passes}
use Rattle.reading.proofs.Passed.{passed}
use Rattle.inputs.specs.Inputs.{JudgesBoth, ShapeDocumentHeld}
use Rattle.inputs.proofs.Mapped.{read_in, refused_in}
use Rattle.inputs.proofs.shape_document.Goals as goal

pub first_shape-requires : goal.first_shape-requires
first_shape-requires c = room_for_shape c.requires

pub read-requires : goal.read-requires
read-requires c =
    let e = read_in 1 c.first_shape.result c.map_err.ensures.cases c.in_ok-first.was in
    room_for_document c.requires _ c.in_ok-first.first.top c.first_shape.auto.pool (c.first_shape.ensures.judged.low _ e)

pub returns-in_err-first : goal.returns-in_err-first
returns-in_err-first c =
    let a = c.args in
    record {
      judged = passed
          (JudgesBoth a.limits read_shape a.shape.now (source a.format) a.document.now
          (ShapeDocumentHeld a.limits c.first_shape.new.shapes a.nodes.now c.first_shape.new.pool))
          c.from_residual.ensures
          (record {
            answer = refused_in 1 c.first_shape.result c.map_err.ensures.cases c.in_err-first.was
                (λ q e. first_refused c.first_shape.ensures.judged (source a.format) a.document.now e);
          });
    }

pub returns-in_err-second : goal.returns-in_err-second
returns-in_err-second c =
    let a = c.args in
    let e = read_in 1 c.first_shape.result c.map_err.ensures.cases c.in_ok-first.was in
    let f = first_passes c.first_shape.ensures.judged e in
    record {
      judged = passed
          (JudgesBoth a.limits read_shape a.shape.now (source a.format) a.document.now
          (ShapeDocumentHeld a.limits c.first_shape.new.shapes c.read.new.nodes c.read.new.pool))
          c.from_residual-in_err-second.ensures
          (record {
            answer = refused_in 2 c.read.result c.map_err-2.ensures.cases c.in_err-second.was
                (λ q g. document_refused f (source a.format) a.document.now c.read.ensures.judged g);
          });
    }

pub returns : goal.returns
returns c =
    let a = c.args in
    let e = read_in 1 c.first_shape.result c.map_err.ensures.cases c.in_ok-first.was in
    let g = read_in 2 c.read.result c.map_err-2.ensures.cases c.in_ok-second.was in
    let f = first_passes c.first_shape.ensures.judged e in
    record { judged = record { answer = rw c.both.ensures (document_passes f (source a.format) a.document.now c.read.ensures.judged g) } }
