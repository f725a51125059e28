-- `perform::run` meets its contract. Assumes nothing.
use native.Mathlib.Omega.{arith}
use Rattle.std.specs.Prelude.{Err}
use Prim.Native.Nat.{ℕ}
use Rattle.running.specs.declared.Halt.{Halt}
use mathlib.Core.Path.{ap, ◌∙◌}
use Rattle.definitions.specs.Operations.{finish, run_judged, refusal}
use Rattle.laws.specs.Ends.{finishes_as, stopped_keeps, finishes_stopped, finishes_passed}
use Rattle.running.specs.RunEnds.{out_refused, out_over, out_ran}
use Rattle.inputs.specs.InputsLaws.{both_passes, both_refused}
use Rattle.perform.proofs.Walks.{run_texts, run_results, run_bindings, runnable, came}
use Rattle.perform.proofs.run.Goals as goal

pub reader_document-requires : goal.reader_document-requires
reader_document-requires c =
    run_texts c.requires.run_slices

pub run-requires : goal.run-requires
run-requires c =
    let b = both_passes c.reader_document.ensures.judged c.in-Ok.is in
    runnable b.held c.args.bindings.now c.args.results.now (run_bindings c.requires.run_slices) (run_results c.requires.run_slices)
    (omega (arith, c.requires.table, c.nodes-1.given)) c.requires.made c.requires.run_slices.small.steps

pub deliver-requires : goal.deliver-requires
deliver-requires c =
    let b = both_passes c.reader_document.ensures.judged c.in-Ok.is in
    let w = came b.held c.run.ensures.ran c.in-Ok-run.is in
    record { value = w.value; holds = w.holds }

pub returns-in-Ok-run : goal.returns-in-Ok-run
unfolding run_judged finish
returns-in-Ok-run c =
    let a = c.args in
    let b = both_passes c.reader_document.ensures.judged c.in-Ok.is in
    let w = came b.held c.run.ensures.ran c.in-Ok-run.is in
    let facts = finishes_passed a.output.now _ b.judged
    (finishes_as a.output.now (out_ran a.limits w)
    (c.deliver.ensures.answered w.value w.holds, c.deliver.ensures.kept w.value w.holds)) in record { answered = facts.0; written = facts.1 }

pub returns-in-Err-Over : goal.returns-in-Err-Over
unfolding run_judged
returns-in-Err-Over c =
    let a = c.args in
    let b = both_passes c.reader_document.ensures.judged c.in-Ok.is in
    let facts = finishes_passed a.output.now _ b.judged
    (stopped_keeps a.output.now (c.refusal.ensures.set ∙ ap (λ (n : ℕ). refusal n 0 0) c.number.ensures.told)
    (out_over a.limits (came b.held c.run.ensures.ran (c.in-Err-Over.is ∙ ap (λ (h : Halt). Err h) c.in-Err-Over.field-0-is)))) in
    record { answered = facts.0; written = facts.1 }

pub returns-in-Err-Refused : goal.returns-in-Err-Refused
unfolding run_judged
returns-in-Err-Refused c =
    let a = c.args in
    let b = both_passes c.reader_document.ensures.judged c.in-Ok.is in
    let facts = finishes_passed a.output.now _ b.judged
    (stopped_keeps a.output.now c.refused.ensures.set
    (out_refused a.limits
    (came b.held c.run.ensures.ran (c.in-Err-Refused.is ∙ ap (λ (h : Halt). Err h) c.in-Err-Refused.field-0-is)))) in
    record { answered = facts.0; written = facts.1 }

pub returns-in-Err : goal.returns-in-Err
unfolding run_judged
returns-in-Err c =
    let facts = finishes_stopped c.args.output.now _ c.refused-in-Err.ensures.set
    (both_refused c.reader_document.ensures.judged c.in-Err.is) in record { answered = facts.0; written = facts.1 }
