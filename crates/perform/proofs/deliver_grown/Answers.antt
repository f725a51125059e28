-- `perform::deliver_grown` meets its contract. Assumes nothing.
use Prim.Native.Nat.{ℕ}
use mathlib.Core.Path.{ap, ◌∙◌}
use Rattle.definitions.specs.Operations.{refusal}
use Rattle.perform.proofs.Walks.{grown_holds, full_keeps}
use Rattle.perform.proofs.deliver_grown.Goals as goal

pub returns-in-None : goal.returns-in-None
returns-in-None c =
    let a = c.args in
    let e = c.in-None.is in
    let r = c.refusal.ensures.set ∙ ap (λ (n : ℕ). refusal n 0 0) c.number.ensures.told in
    record {
      answered = λ u g. (full_keeps u a.grown a.shapes.now a.pool.now a.limits g a.output.now e r).0;
      written = λ u g. (full_keeps u a.grown a.shapes.now a.pool.now a.limits g a.output.now e r).1;
    }

pub deliver-requires : goal.deliver-requires
deliver-requires c =
    let a = c.args in
    let s = c.requires in
    let e = c.in-Some.is in
    record { shape = s.shape; holds = grown_holds s.shape a.grown a.shapes.now a.pool.now a.limits s.grows e; small = s.small }

pub returns-in-Some : goal.returns-in-Some
returns-in-Some c =
    let a = c.args in
    let e = c.in-Some.is in record {
      answered = λ u g. c.deliver.ensures.answered u (grown_holds u a.grown a.shapes.now a.pool.now a.limits g e);
      written = λ u g. c.deliver.ensures.kept u (grown_holds u a.grown a.shapes.now a.pool.now a.limits g e);
    }
