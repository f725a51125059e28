-- The proof of `run_place`, which calls itself at the row behind: the measure is what is left of the table. Assumes nothing.
use native.Mathlib.Omega.{arith}
use mathlib.Core.Path.{sym, subst, ◌∙◌}
use Rattle.running.specs.Walk.{SeesPlace}
use Rattle.running.proofs.PlaceRuns.{stopped, it_within, it_seen, inner_ready, inner_within}
use Rattle.running.proofs.PlaceRuns.{inner_refused, stuck, through, some_record, found}
use Rattle.running.proofs.places.+run_place.Goals as goal

pub returns-then-t-steps : goal.returns-then-t-steps
returns-then-t-steps t c = record { seen = stopped c.if-t-steps.true c.place.ensures.read }

pub offset_bounds-bindings-payload : goal.offset_bounds-bindings-payload
offset_bounds-bindings-payload t c =
    omega (
      arith,
      c.well_formed,
      c.payload-payload.ensures.read,
      it_within c.requires (sym c.code.ensures.read ∙ c.if-code-eq-IT.true) c.if-t-steps.false,
    )

pub bounds-bindings-payload : goal.bounds-bindings-payload
bounds-bindings-payload t c =
    omega (
      arith,
      c.payload-payload.ensures.read,
      it_within c.requires (sym c.code.ensures.read ∙ c.if-code-eq-IT.true) c.if-t-steps.false,
    )

pub returns-then-code-eq-IT : goal.returns-then-code-eq-IT
returns-then-code-eq-IT t c =
    record {
      seen = it_seen (sym c.code.ensures.read ∙ c.if-code-eq-IT.true) c.if-t-steps.false
          c.payload-payload.ensures.read;
    }

pub overflow_add-row : goal.overflow_add-row
overflow_add-row t c =
    omega (arith, c.well_formed, inner_within (λ e. c.if-code-eq-IT.false (c.code.ensures.read ∙ e)) c.requires)

pub run_place-part-requires : goal.run_place-part-requires
run_place-part-requires t c = (
  omega (arith, c.decreases, inner_within (λ e. c.if-code-eq-IT.false (c.code.ensures.read ∙ e)) c.requires),
  inner_ready (λ e. c.if-code-eq-IT.false (c.code.ensures.read ∙ e)) c.requires,
)

pub returns-in_default : goal.returns-in_default
returns-in_default t c =
    record {
      seen = subst (SeesPlace c.args.t.now.forms.now c.args.t.now.nodes.now c.args.t.now.pool.now c.args.bindings.now c.args.t.now.limit
          c.args.row c.args.steps) (sym c.in_default.is)
          (inner_refused (λ e. c.if-code-eq-IT.false (c.code.ensures.read ∙ e)) c.if-t-steps.false c.run_place-part.ensures.seen c.in_default.is);
    }

pub returns-then-kind-eq-NULL : goal.returns-then-kind-eq-NULL
returns-then-kind-eq-NULL t c =
    record {
      seen = through (λ e. c.if-code-eq-IT.false (c.code.ensures.read ∙ e)) c.if-t-steps.false
          c.run_place-part.ensures.seen c.in-Ok.is c.row_kind-kind.ensures.read c.if-kind-eq-NULL.true;
    }

pub returns-then-kind-ne-RECORD : goal.returns-then-kind-ne-RECORD
returns-then-kind-ne-RECORD t c =
    record {
      seen = stuck (λ e. c.if-code-eq-IT.false (c.code.ensures.read ∙ e)) c.if-t-steps.false
          c.run_place-part.ensures.seen c.in-Ok.is
          c.row_kind-kind.ensures.read
          c.if-kind-eq-NULL.false c.if-kind-ne-RECORD.true c.place-then-kind-ne-RECORD.ensures.read;
    }

pub find_member-requires : goal.find_member-requires
find_member-requires t c =
    some_record (λ e. c.if-code-eq-IT.false (c.code.ensures.read ∙ e)) c.if-t-steps.false
    c.run_place-part.ensures.seen c.in-Ok.is
    c.row_kind-kind.ensures.read c.if-kind-ne-RECORD.false c.requires

pub returns : goal.returns
returns t c =
    record {
      seen = found (λ e. c.if-code-eq-IT.false (c.code.ensures.read ∙ e)) c.if-t-steps.false
          c.run_place-part.ensures.seen c.in-Ok.is
          c.row_kind-kind.ensures.read c.if-kind-ne-RECORD.false
          c.payload-payload.ensures.read
          c.find_member.ensures.found;
    }
