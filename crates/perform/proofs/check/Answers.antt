-- `perform::check` meets its contract. Assumes nothing.
use native.Mathlib.Omega.{arith}
use Rattle.definitions.specs.Operations.{check_judged}
use Rattle.laws.specs.Ends.{finishes_stopped, finishes_passed}
use Rattle.inputs.specs.InputsLaws.{both_passes, both_refused}
use Rattle.perform.proofs.Walks.{check_texts, check_results, check_bindings, walk_passes, checkable, reader_checks, reader_fails, giving, given}
use Rattle.perform.proofs.check.Goals as goal

pub reader_shape-requires : goal.reader_shape-requires
reader_shape-requires c =
    check_texts c.requires.check_slices

pub check-requires : goal.check-requires
check-requires c =
    let b = both_passes c.reader_shape.ensures.judged c.in-Ok.is in
    record {
      reader_asked = checkable b.held c.args.bindings.now (check_bindings c.requires.check_slices);
      small = omega (arith, c.requires.table, c.shapes-1.given);
    }

pub result-grown-requires : goal.result-grown-requires
result-grown-requires c =
    let b = both_passes c.reader_shape.ensures.judged c.in-Ok.is in
    let (t, e) = reader_checks b.held c.args.bindings.now (check_bindings c.requires.check_slices) c.check.ensures.checked
    c.in-Ok-check.is in record {
      reader_asked = giving b.held _ (omega (arith, check_bindings c.requires.check_slices, c.check.ensures.same)) e;
      small = c.requires.grown;
      few = omega (arith, c.requires.table, c.shapes-1.given);
    }

pub deliver_grown-requires : goal.deliver_grown-requires
deliver_grown-requires c =
    let b = both_passes c.reader_shape.ensures.judged c.in-Ok.is in
    let (t, e) = reader_checks b.held c.args.bindings.now (check_bindings c.requires.check_slices) c.check.ensures.checked
    c.in-Ok-check.is in
    record {
      shape = t;
      grows =
          given b.held _ (omega (arith, check_bindings c.requires.check_slices, c.check.ensures.same)) e _ _ c.result-grown.result
          (check_results c.requires.check_slices)
          c.result-grown.ensures.given;
      small = omega (arith, c.requires.grown, c.results-1.given);
    }

pub shape_of-forms-in-Ok-check : goal.shape_of-forms-in-Ok-check
shape_of-forms-in-Ok-check c =
    omega (arith, c.forms-1.given)

pub shape_of-shapes-in-Ok-check : goal.shape_of-shapes-in-Ok-check
shape_of-shapes-in-Ok-check c =
    omega (arith, c.shapes-1.given)

pub shape_of-pool-in-Ok-check : goal.shape_of-pool-in-Ok-check
shape_of-pool-in-Ok-check c =
    omega (arith, c.pool-1.given)

pub returns-in-Ok-check : goal.returns-in-Ok-check
unfolding check_judged
returns-in-Ok-check c =
    let out = c.args.output.now in
    let b = both_passes c.reader_shape.ensures.judged c.in-Ok.is in
    let (t, e) = reader_checks b.held c.args.bindings.now (check_bindings c.requires.check_slices) c.check.ensures.checked
    c.in-Ok-check.is in
    let g = given b.held _ (omega (arith, check_bindings c.requires.check_slices, c.check.ensures.same)) e _ _ c.result-grown.result
    (check_results c.requires.check_slices)
    c.result-grown.ensures.given in
    let facts = finishes_passed out _ b.judged
    (finishes_passed out _ (walk_passes 1 e) (c.deliver_grown.ensures.answered t g, c.deliver_grown.ensures.written t g)) in
    record { answered = facts.0; written = facts.1 }

pub returns-in-Err-check : goal.returns-in-Err-check
unfolding check_judged
returns-in-Err-check c =
    let out = c.args.output.now in
    let b = both_passes c.reader_shape.ensures.judged c.in-Ok.is in
    let facts = finishes_passed out _ b.judged
    (finishes_stopped out _ c.refused.ensures.set
    (reader_fails b.held c.args.bindings.now (check_bindings c.requires.check_slices) c.check.ensures.checked
    c.in-Err-check.is)) in record { answered = facts.0; written = facts.1 }

pub returns-in-Err : goal.returns-in-Err
unfolding check_judged
returns-in-Err c =
    let facts = finishes_stopped c.args.output.now _ c.refused-in-Err.ensures.set
    (both_refused c.reader_shape.ensures.judged c.in-Err.is) in record { answered = facts.0; written = facts.1 }
