-- `perform::infer` meets its contract. Assumes nothing.
use native.Mathlib.Omega.{arith}
use Rattle.definitions.specs.Operations.{infer_judged}
use Rattle.laws.specs.Ends.{finishes_stopped, finishes_passed}
use Rattle.inputs.specs.InputsLaws.{both_passes, both_refused}
use Rattle.perform.proofs.Walks.{document_texts, room_beside_document, used_within, inferable, inferred}
use Rattle.perform.proofs.infer.Goals as goal

pub shape_document-requires : goal.shape_document-requires
shape_document-requires c =
    document_texts c.requires.grown_document_slices

pub infer_at-grown-requires : goal.infer_at-grown-requires
infer_at-grown-requires c =
    let b = both_passes c.shape_document.ensures.judged c.in-Ok.is in
    record { inferable = inferable b.held; room = record { enough = used_within b.held.shape; small = omega (arith, c.requires.table, c.shapes-1.given) } }

pub deliver_grown-requires : goal.deliver_grown-requires
deliver_grown-requires c =
    let b = both_passes c.shape_document.ensures.judged c.in-Ok.is in
    record {
      shape = _;
      grows =
          inferred b.held _ c.infer_at-grown.result (omega (arith, room_beside_document c.requires.grown_document_slices, c.shapes-1.given))
          c.infer_at-grown.ensures.joined;
      small = omega (arith, c.requires.table, c.type_inv, c.shapes-1.given, c.shapes-in-Ok-1.given);
    }

pub returns-in-Ok : goal.returns-in-Ok
unfolding infer_judged
returns-in-Ok c =
    let b = both_passes c.shape_document.ensures.judged c.in-Ok.is in
    let g = inferred b.held _ c.infer_at-grown.result (omega (arith, room_beside_document c.requires.grown_document_slices, c.shapes-1.given))
    c.infer_at-grown.ensures.joined in
    let facts = finishes_passed c.args.output.now _ b.judged (c.deliver_grown.ensures.answered _ g, c.deliver_grown.ensures.written _ g) in
    record { answered = facts.0; written = facts.1 }

pub returns-in-Err : goal.returns-in-Err
unfolding infer_judged
returns-in-Err c = let facts = finishes_stopped c.args.output.now _ c.refused.ensures.set
    (both_refused c.shape_document.ensures.judged c.in-Err.is) in record { answered = facts.0; written = facts.1 }
