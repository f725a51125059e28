-- The proof of the cycle of calls {run_each, run_form, run_if, run_on, run_pack, run_when}. A form's parts stand at later rows: the measures are
-- three times what is left of the table from the form's row on, two more for `run_form` and one more for `run_on`, which go on at the same row.
-- The loops' invariants are `EachLoop` and `PackLoop`. Assumes nothing.
use Prim.Native.Nat.{◌+◌}
use native.Mathlib.Omega.{arith}
use mathlib.Core.Path.{refl, sym, ap, subst, ◌∙◌}
use lib.ListN.{length-set}
use Rattle.running.specs.Walk.{Runs, Follows}
use Rattle.running.proofs.FormRuns.{row_within, stopped, some_literal, literal_ran, giving, operand_ready, operand_refused, following, followed}
use Rattle.running.proofs.FormRuns.{narrowed, some_bound, count_followed, value_followed, when_room}
use Rattle.running.proofs.WhenRuns.{when_within, when_yes_ready, when_no_ready, when_yes, when_no, choose_within, test_ready, test_refused}
use Rattle.running.proofs.WhenRuns.{choose_stuck, yes_ready, no_ready, chose_yes, chose_no, row_behind, row_third}
use Rattle.running.proofs.EachRuns as each
use Rattle.running.proofs.PackRuns as pack
use Rattle.running.proofs.walk.+run_each_run_form_run_if_run_on_run_pack_run_when.Goals as goal

pub run_each-overflow_add-place : goal.run_each-overflow_add-place
run_each-overflow_add-place t c =
    omega (arith, row_within c.requires.ready, c.well_formed)

pub run_each-overflow_add-body : goal.run_each-overflow_add-body
run_each-overflow_add-body t c =
    omega (arith, c.size.ensures.read, (each.each_within c.requires).0, c.well_formed)

pub run_each-items_end-end-requires : goal.run_each-items_end-end-requires
run_each-items_end-end-requires t c =
    some_bound c.requires

pub run_each-overflow_add-i : goal.run_each-overflow_add-i
run_each-overflow_add-i t c =
    omega (arith, (each.each_within c.requires).2)

pub run_each-overflow_add-begun : goal.run_each-overflow_add-begun
run_each-overflow_add-begun t c =
    omega (arith, (each.each_within c.requires).3)

pub run_each-loop-i-init : goal.run_each-loop-i-init
run_each-loop-i-init t c =
    each.each_begins c.requires c.items_end-end.ensures.told

pub run_each-offset_bounds-bindings-bound : goal.run_each-offset_bounds-bindings-bound
run_each-offset_bounds-bindings-bound t c =
    omega (arith, (each.each_within c.requires).1, c.well_formed)

pub run_each-bounds-bindings-bound : goal.run_each-bounds-bindings-bound
run_each-bounds-bindings-bound t c =
    omega (arith, (each.each_within c.requires).1, c.loop-i.invariant.same_bindings)

pub run_each-overflow_add-part : goal.run_each-overflow_add-part
run_each-overflow_add-part t c =
    omega (arith, (each.each_within c.requires).1, c.well_formed)

pub run_each-run_form-r-requires : goal.run_each-run_form-r-requires
run_each-run_form-r-requires t c = (
  omega (arith, c.decreases, c.size.ensures.read, (each.each_within c.requires).0),
  each.part_ready c.requires c.loop-i.invariant c.loop-i-test.true
      (row_behind c.args.t.now.forms.now (c.args.c.row + 3) c.size.result c.size.ensures.read),
)

pub run_each-shape_of-bindings-in_default : goal.run_each-shape_of-bindings-in_default
run_each-shape_of-bindings-in_default t c =
    c.run_form-r.auto.bindings ∙ length-set c.loop-i.bindings c.args.c.bound c.loop-i.i
    ∙ c.loop-i.invariant.same_bindings

pub run_each-shape_of-results-in_default : goal.run_each-shape_of-results-in_default
run_each-shape_of-results-in_default t c =
    c.run_form-r.auto.results ∙ c.loop-i.invariant.same_results

pub run_each-returns-in_default : goal.run_each-returns-in_default
run_each-returns-in_default t c =
    record {
      ran = subst (Follows c.args.t.now.forms.now c.args.t.now.nodes.now c.args.t.now.pool.now c.args.bindings.now c.run_form-r.new.bindings
          c.args.results.now c.run_form-r.new.results c.args.t.now.limit c.args.c c.args.at c.args.behind) (sym c.in_default.is)
          (each.part_refused c.requires c.loop-i.invariant c.loop-i-test.true
          (row_behind c.args.t.now.forms.now (c.args.c.row + 3) c.size.result c.size.ensures.read)
          c.run_form-r.ensures.ran c.in_default.is);
    }

pub run_each-overflow_add-i-in-loop-i : goal.run_each-overflow_add-i-in-loop-i
run_each-overflow_add-i-in-loop-i t c =
    omega (arith, c.row_size-i.ensures.sized, (each.item_within c.requires c.loop-i.invariant c.loop-i-test.true).1)

pub run_each-loop-i-smaller : goal.run_each-loop-i-smaller
run_each-loop-i-smaller t c =
    omega (
      arith,
      c.row_size-i.ensures.sized,
      c.loop-i-test.true,
      (each.item_within c.requires c.loop-i.invariant c.loop-i-test.true).0,
    )

pub run_each-loop-i-preserved : goal.run_each-loop-i-preserved
run_each-loop-i-preserved t c =
    each.part_done c.requires c.loop-i.invariant c.loop-i-test.true
    (row_behind c.args.t.now.forms.now (c.args.c.row + 3) c.size.result c.size.ensures.read)
    c.run_form-r.ensures.ran c.in-Ok.is
    (c.run_form-r.auto.bindings ∙ length-set c.loop-i.bindings c.args.c.bound c.loop-i.i)
    c.run_form-r.auto.results c.row_size-i.ensures.sized

pub run_each-close_list-requires : goal.run_each-close_list-requires
run_each-close_list-requires t c =
    each.closable c.requires c.loop-i.invariant c.loop-i-test.false

pub run_each-shape_of-bindings : goal.run_each-shape_of-bindings
run_each-shape_of-bindings t c =
    c.loop-i.invariant.same_bindings

pub run_each-shape_of-results : goal.run_each-shape_of-results
run_each-shape_of-results t c =
    c.close_list.auto.results ∙ c.loop-i.invariant.same_results

pub run_each-returns : goal.run_each-returns
run_each-returns t c =
    record {
      ran = each.each_ends c.requires c.loop-i.invariant c.loop-i-test.false c.close_list.ensures.closed;
    }

pub run_form-returns-then-t-c : goal.run_form-returns-then-t-c
run_form-returns-then-t-c t c =
    record {
      ran = stopped c.if-t-c.true c.place.ensures.read;
    }

pub run_form-run_pack-requires : goal.run_form-run_pack-requires
run_form-run_pack-requires t c = (
  omega (arith, c.decreases),
  record { ready = c.requires; left = c.if-t-c.false; coded = sym c.code.ensures.read ∙ c.in-17.is },
)

pub run_form-run_if-requires : goal.run_form-run_if-requires
run_form-run_if-requires t c = (
  omega (arith, c.decreases),
  record { ready = c.requires; left = c.if-t-c.false; coded = sym c.code.ensures.read ∙ c.in-11.is },
)

pub run_form-give_literal-requires : goal.run_form-give_literal-requires
run_form-give_literal-requires t c =
    record {
      giving = giving c.requires (omega arith) (omega (arith, c.if-t-c.false));
      there = some_literal c.code.ensures.read c.if-code-gt-IF.true (λ e. omega arith) c.requires;
    }

pub run_form-returns-in_default : goal.run_form-returns-in_default
run_form-returns-in_default t c =
    record {
      ran = literal_ran c.code.ensures.read c.if-code-gt-IF.true (λ e. omega arith) c.if-t-c.false
          c.give_literal.ensures.given;
    }

pub run_form-overflow_add-c : goal.run_form-overflow_add-c
run_form-overflow_add-c t c =
    omega (arith, c.if-t-c.false, c.requires.small.steps)

pub run_form-run_operand-found-requires : goal.run_form-run_operand-found-requires
run_form-run_operand-found-requires t c =
    operand_ready c.code.ensures.read c.if-code-gt-IF.false (λ e. omega arith) c.requires

pub run_form-returns-in_default-found : goal.run_form-returns-in_default-found
run_form-returns-in_default-found t c =
    record {
      ran = operand_refused c.code.ensures.read c.if-code-gt-IF.false (λ e. omega arith)
          c.run_operand-found.ensures.seen c.if-t-c.false c.unwrap_err.ensures;
    }

pub run_form-run_on-requires : goal.run_form-run_on-requires
run_form-run_on-requires t c = (
  omega (arith, c.decreases),
  following c.code.ensures.read c.if-code-gt-IF.false (λ e. omega arith)
      c.run_operand-found.ensures.seen c.if-t-c.false
      c.in-Ok.is c.requires,
)

pub run_form-returns-in-Ok : goal.run_form-returns-in-Ok
run_form-returns-in-Ok t c =
    record {
      ran = followed c.code.ensures.read c.if-code-gt-IF.false (λ e. omega arith)
          c.run_operand-found.ensures.seen
          c.if-t-c.false c.in-Ok.is c.run_on.ensures.ran;
    }

pub run_if-overflow_add-first : goal.run_if-overflow_add-first
run_if-overflow_add-first t c =
    omega (arith, row_within c.requires.ready, c.well_formed)

pub run_if-overflow_add-test : goal.run_if-overflow_add-test
run_if-overflow_add-test t c =
    omega (arith, c.requires.left, c.requires.ready.small.steps)

pub run_if-run_form-r-requires : goal.run_if-run_form-r-requires
run_if-run_form-r-requires t c =
    (omega (arith, c.decreases, (choose_within c.requires).0), test_ready c.requires)

pub run_if-returns-in_default : goal.run_if-returns-in_default
run_if-returns-in_default t c =
    record {
      ran = subst (Runs c.args.t.now.forms.now c.args.t.now.nodes.now c.args.t.now.pool.now c.args.bindings.now c.run_form-r.new.bindings
          c.args.results.now c.run_form-r.new.results c.args.t.now.limit c.args.c) (sym c.in_default.is)
          (test_refused c.requires c.run_form-r.ensures.ran c.run_form-r.auto.bindings
          c.run_form-r.auto.results c.in_default.is);
    }

pub run_if-overflow_add-second : goal.run_if-overflow_add-second
run_if-overflow_add-second t c =
    omega (arith, c.size.ensures.read, (choose_within c.requires).1, c.well_formed)

pub run_if-run_form-requires : goal.run_if-run_form-requires
run_if-run_form-requires t c = (
  omega (arith, c.decreases, c.size.ensures.read, (choose_within c.requires).1),
  yes_ready c.requires c.run_form-r.ensures.ran c.run_form-r.auto.bindings
      c.run_form-r.auto.results c.in-Ok.is
      (row_behind c.args.t.now.forms.now (c.args.c.row + 3) c.size.result c.size.ensures.read),
)

pub run_if-returns-then-done-eq-TRUE : goal.run_if-returns-then-done-eq-TRUE
run_if-returns-then-done-eq-TRUE t c =
    record {
      ran = chose_yes c.requires c.run_form-r.ensures.ran c.run_form-r.auto.bindings
          c.run_form-r.auto.results c.in-Ok.is
          c.run_form.ensures.ran c.if-done-eq-TRUE.true
          (row_behind c.args.t.now.forms.now (c.args.c.row + 3) c.size.result c.size.ensures.read);
    }

pub run_if-overflow_add-part : goal.run_if-overflow_add-part
run_if-overflow_add-part t c =
    omega (
      arith,
      (row_third c.args.t.now.forms.now (c.args.c.row + 3) (c.args.c.row + 3 + c.size.result) c.size-then-done-eq-FALSE.result
          (row_behind c.args.t.now.forms.now (c.args.c.row + 3) c.size.result c.size.ensures.read) c.size-then-done-eq-FALSE.ensures.read),
      (choose_within c.requires).2,
      c.well_formed,
    )

pub run_if-run_form-requires-then-done-eq-FALSE : goal.run_if-run_form-requires-then-done-eq-FALSE
run_if-run_form-requires-then-done-eq-FALSE t c = (
  omega (
    arith,
    c.decreases,
    (row_third c.args.t.now.forms.now (c.args.c.row + 3) (c.args.c.row + 3 + c.size.result)
        c.size-then-done-eq-FALSE.result
        (row_behind c.args.t.now.forms.now (c.args.c.row + 3) c.size.result c.size.ensures.read)
        c.size-then-done-eq-FALSE.ensures.read),
    (row_behind c.args.t.now.forms.now (c.args.c.row + 3) c.size.result c.size.ensures.read),
    (choose_within c.requires).2,
  ),
  no_ready c.requires c.run_form-r.ensures.ran c.run_form-r.auto.bindings
      c.run_form-r.auto.results c.in-Ok.is
      (row_third c.args.t.now.forms.now (c.args.c.row + 3) (c.args.c.row + 3 + c.size.result)
      c.size-then-done-eq-FALSE.result
      (row_behind c.args.t.now.forms.now (c.args.c.row + 3) c.size.result c.size.ensures.read)
      c.size-then-done-eq-FALSE.ensures.read),
)

pub run_if-returns-then-done-eq-FALSE : goal.run_if-returns-then-done-eq-FALSE
run_if-returns-then-done-eq-FALSE t c =
    record {
      ran = chose_no c.requires c.run_form-r.ensures.ran c.run_form-r.auto.bindings c.run_form-r.auto.results
          c.in-Ok.is
          c.run_form-then-done-eq-FALSE.ensures.ran
          c.if-done-eq-FALSE.true (row_third c.args.t.now.forms.now (c.args.c.row + 3)
          (c.args.c.row + 3 + c.size.result) c.size-then-done-eq-FALSE.result
          (row_behind c.args.t.now.forms.now (c.args.c.row + 3) c.size.result c.size.ensures.read)
          c.size-then-done-eq-FALSE.ensures.read);
    }

pub run_if-returns : goal.run_if-returns
run_if-returns t c =
    record {
      ran = choose_stuck c.requires c.run_form-r.ensures.ran c.run_form-r.auto.bindings
          c.run_form-r.auto.results c.in-Ok.is
          c.if-done-eq-TRUE.false c.if-done-eq-FALSE.false c.place.ensures.read;
    }

pub run_on-run_when-requires : goal.run_on-run_when-requires
run_on-run_when-requires t c = (
  omega (arith, c.decreases),
  narrowed c.requires c.code.ensures.read (omega (arith, c.in-10.is)) (omega (arith, c.in-10.is)),
)

pub run_on-run_each-requires : goal.run_on-run_each-requires
run_on-run_each-requires t c = (
  omega (arith, c.decreases),
  narrowed c.requires c.code.ensures.read (omega (arith, c.in-9.is)) (omega (arith, c.in-9.is)),
)

pub run_on-give_count-requires : goal.run_on-give_count-requires
run_on-give_count-requires t c =
    record { giving = giving c.requires.ready c.requires.counted c.requires.left; there = some_bound c.requires }

pub run_on-returns-in-8 : goal.run_on-returns-in-8
run_on-returns-in-8 t c =
    record { ran = count_followed c.code.ensures.read c.in-8.is c.give_count.ensures.given }

pub run_on-give_value-requires : goal.run_on-give_value-requires
run_on-give_value-requires t c =
    record { giving = giving c.requires.ready c.requires.counted c.requires.left; there = some_bound c.requires }

pub run_on-returns-in_default : goal.run_on-returns-in_default
run_on-returns-in_default t c =
    record {
      ran = value_followed c.requires c.code.ensures.read (omega (arith, c.requires.early, c.code.ensures.read)) c.give_value.ensures.given;
    }

pub run_pack-overflow_add-end : goal.run_pack-overflow_add-end
run_pack-overflow_add-end t c =
    omega (arith, c.size.ensures.read, (pack.pack_within c.requires).0, c.well_formed)

pub run_pack-overflow_add-row : goal.run_pack-overflow_add-row
run_pack-overflow_add-row t c =
    omega (arith, (pack.pack_within c.requires).1, c.well_formed)

pub run_pack-overflow_add-begun : goal.run_pack-overflow_add-begun
run_pack-overflow_add-begun t c =
    omega (arith, (pack.pack_within c.requires).2)

pub run_pack-overflow_add-steps : goal.run_pack-overflow_add-steps
run_pack-overflow_add-steps t c =
    omega (arith, (pack.pack_within c.requires).3)

pub run_pack-loop-row-init : goal.run_pack-loop-row-init
run_pack-loop-row-init t c =
    pack.pack_begins c.requires (ap (λ n. c.args.c.row + n) c.size.ensures.read)

pub run_pack-run_form-r-requires : goal.run_pack-run_form-r-requires
run_pack-run_form-r-requires t c = (
  omega (arith, c.decreases, c.loop-row.invariant.later, pack.pair_within c.requires c.loop-row.invariant c.loop-row-test.true),
  pack.part_ready c.requires c.loop-row.invariant c.loop-row-test.true c.name-name.ensures.read,
)

pub run_pack-shape_of-bindings-in_default : goal.run_pack-shape_of-bindings-in_default
run_pack-shape_of-bindings-in_default t c =
    c.run_form-r.auto.bindings ∙ c.loop-row.invariant.same_bindings

pub run_pack-shape_of-results-in_default : goal.run_pack-shape_of-results-in_default
run_pack-shape_of-results-in_default t c =
    c.run_form-r.auto.results ∙ c.loop-row.invariant.same_results

pub run_pack-returns-in_default : goal.run_pack-returns-in_default
run_pack-returns-in_default t c =
    record {
      ran = subst (Runs c.args.t.now.forms.now c.args.t.now.nodes.now c.args.t.now.pool.now c.args.bindings.now c.run_form-r.new.bindings
          c.args.results.now c.run_form-r.new.results c.args.t.now.limit c.args.c) (sym c.in_default.is)
          (pack.part_refused c.requires c.loop-row.invariant c.loop-row-test.true c.name-name.ensures.read
          c.run_form-r.ensures.ran c.in_default.is);
    }

pub run_pack-overflow_add-row-in-loop-row : goal.run_pack-overflow_add-row-in-loop-row
run_pack-overflow_add-row-in-loop-row t c =
    omega (arith, c.size-row.ensures.read, (pack.pair_within c.requires c.loop-row.invariant c.loop-row-test.true).1, c.well_formed)

pub run_pack-loop-row-smaller : goal.run_pack-loop-row-smaller
run_pack-loop-row-smaller t c =
    omega (arith, c.size-row.ensures.read, c.loop-row-test.true, (pack.pair_within c.requires c.loop-row.invariant c.loop-row-test.true).0)

pub run_pack-loop-row-preserved : goal.run_pack-loop-row-preserved
run_pack-loop-row-preserved t c =
    pack.part_done c.requires c.loop-row.invariant c.loop-row-test.true c.name-name.ensures.read
    c.run_form-r.ensures.ran c.in-Ok.is c.run_form-r.auto.bindings
    c.run_form-r.auto.results c.size-row.ensures.read

pub run_pack-close_record-requires : goal.run_pack-close_record-requires
run_pack-close_record-requires t c =
    pack.closable c.requires c.loop-row.invariant c.loop-row-test.false

pub run_pack-shape_of-bindings : goal.run_pack-shape_of-bindings
run_pack-shape_of-bindings t c =
    c.loop-row.invariant.same_bindings

pub run_pack-shape_of-results : goal.run_pack-shape_of-results
run_pack-shape_of-results t c =
    c.close_record.auto.results ∙ c.loop-row.invariant.same_results

pub run_pack-returns : goal.run_pack-returns
run_pack-returns t c =
    record {
      ran = pack.pack_ends c.requires c.loop-row.invariant c.loop-row-test.false c.close_record.ensures.closed;
    }

pub run_when-offset_bounds-bindings-c : goal.run_when-offset_bounds-bindings-c
run_when-offset_bounds-bindings-c t c =
    omega (arith, when_room c.requires, c.well_formed)

pub run_when-bounds-bindings-c : goal.run_when-bounds-bindings-c
run_when-bounds-bindings-c t c =
    when_room c.requires

pub run_when-overflow_add-place : goal.run_when-overflow_add-place
run_when-overflow_add-place t c =
    omega (arith, row_within c.requires.ready, c.well_formed)

pub run_when-overflow_add-first : goal.run_when-overflow_add-first
run_when-overflow_add-first t c =
    omega (arith, c.size.ensures.read, (when_within c.requires).0, c.well_formed)

pub run_when-overflow_add-bound : goal.run_when-overflow_add-bound
run_when-overflow_add-bound t c =
    omega (arith, when_room c.requires, c.well_formed)

pub run_when-run_form-requires : goal.run_when-run_form-requires
run_when-run_form-requires t c = (
  omega (arith, c.decreases, c.size.ensures.read, (when_within c.requires).0),
  when_yes_ready
      (row_behind c.args.t.now.forms.now (c.args.c.row + 3) c.size.result c.size.ensures.read)
      refl c.requires,
)

pub run_when-shape_of-bindings-then-is_kind : goal.run_when-shape_of-bindings-then-is_kind
run_when-shape_of-bindings-then-is_kind t c =
    c.run_form.auto.bindings ∙ length-set c.args.bindings.now c.args.c.bound c.args.at

pub run_when-returns-then-is_kind : goal.run_when-returns-then-is_kind
run_when-returns-then-is_kind t c =
    record {
      ran = when_yes (row_behind c.args.t.now.forms.now (c.args.c.row + 3) c.size.result c.size.ensures.read) refl
          c.operand.ensures.read c.is_kind.ensures.told c.requires c.if-is_kind.true
          c.run_form.ensures.ran;
    }

pub run_when-overflow_add-part : goal.run_when-overflow_add-part
run_when-overflow_add-part t c =
    omega (
      arith,
      (row_third c.args.t.now.forms.now (c.args.c.row + 3) (c.args.c.row + 3 + c.size.result) c.size-2.result
          (row_behind c.args.t.now.forms.now (c.args.c.row + 3) c.size.result c.size.ensures.read) c.size-2.ensures.read),
      (when_within c.requires).1,
      c.well_formed,
    )

pub run_when-run_form-requires-2 : goal.run_when-run_form-requires-2
run_when-run_form-requires-2 t c = (
  omega (
    arith,
    c.decreases,
    (row_third c.args.t.now.forms.now (c.args.c.row + 3) (c.args.c.row + 3 + c.size.result)
        c.size-2.result
        (row_behind c.args.t.now.forms.now (c.args.c.row + 3) c.size.result c.size.ensures.read)
        c.size-2.ensures.read),
    (row_behind c.args.t.now.forms.now (c.args.c.row + 3) c.size.result c.size.ensures.read),
    (when_within c.requires).1,
  ),
  when_no_ready (row_behind c.args.t.now.forms.now (c.args.c.row + 3) c.size.result c.size.ensures.read)
      (row_behind c.args.t.now.forms.now (c.args.c.row + 3 + c.size.result) c.size-2.result
      c.size-2.ensures.read)
      c.requires,
)

pub run_when-shape_of-bindings : goal.run_when-shape_of-bindings
run_when-shape_of-bindings t c =
    c.run_form-2.auto.bindings ∙ length-set c.args.bindings.now c.args.c.bound c.args.at

pub run_when-returns : goal.run_when-returns
run_when-returns t c =
    record {
      ran = when_no (row_behind c.args.t.now.forms.now (c.args.c.row + 3) c.size.result c.size.ensures.read)
          (row_behind c.args.t.now.forms.now (c.args.c.row + 3 + c.size.result) c.size-2.result
          c.size-2.ensures.read)
          c.operand.ensures.read c.is_kind.ensures.told c.requires
          c.if-is_kind.false
          c.run_form-2.ensures.ran;
    }
