-- `running::run` meets its contract. Assumes nothing.
use mathlib.Core.Path.{◌∙◌}
use lib.ListN.{length-set}
use Rattle.reading.proofs.Passed.{passed}
use Rattle.running.specs.Run.{RunsReader}
use Rattle.running.proofs.Readers.{bound_within, ready, refused_at, too_many, some_value, too_deep, allowed}
use Rattle.running.proofs.run.Goals as goal

pub bounds-bindings-0 : goal.bounds-bindings-0
bounds-bindings-0 c =
    bound_within c.args.bindings.now c.requires.bound c.requires

pub run_form-requires : goal.run_form-requires
run_form-requires c =
    ready c.args.bindings.now c.requires.bound c.requires

pub shape_of-bindings-then-limits-done : goal.shape_of-bindings-then-limits-done
shape_of-bindings-then-limits-done c =
    c.run_form.auto.bindings ∙ length-set c.args.bindings.now 0 0

pub returns-then-limits-done : goal.returns-then-limits-done
returns-then-limits-done c =
    record {
      ran = too_many c.args.bindings.now c.requires.bound c.run_form.ensures.ran
          c.in_ok-done.was c.if-limits-done.true;
    }

pub is_deep-requires : goal.is_deep-requires
is_deep-requires c =
    some_value c.args.bindings.now c.requires.bound c.run_form.ensures.ran
    c.in_ok-done.was c.if-limits-done.false
    c.requires.room c.requires c.run_form.auto.results

pub shape_of-bindings-then-is_deep : goal.shape_of-bindings-then-is_deep
shape_of-bindings-then-is_deep c =
    c.run_form.auto.bindings ∙ length-set c.args.bindings.now 0 0

pub returns-then-is_deep : goal.returns-then-is_deep
returns-then-is_deep c =
    record {
      ran = too_deep c.args.bindings.now c.requires.bound c.run_form.ensures.ran
          c.in_ok-done.was
          c.if-limits-done.false c.requires.room c.is_deep.ensures.told c.if-is_deep.true;
    }

pub shape_of-bindings : goal.shape_of-bindings
shape_of-bindings c =
    c.run_form.auto.bindings ∙ length-set c.args.bindings.now 0 0

pub returns : goal.returns
returns c =
    record {
      ran = allowed c.args.bindings.now c.requires.bound c.run_form.ensures.ran
          c.in_ok-done.was
          c.if-limits-done.false c.requires.room c.is_deep.ensures.told c.if-is_deep.false;
    }

pub shape_of-bindings-in_err-done : goal.shape_of-bindings-in_err-done
shape_of-bindings-in_err-done c =
    c.run_form.auto.bindings ∙ length-set c.args.bindings.now 0 0

pub returns-in_err-done : goal.returns-in_err-done
returns-in_err-done c =
    record {
      ran = passed (RunsReader c.args.forms.now c.args.nodes.now c.args.pool.now c.run_form.new.results c.args.limits) c.from_residual.ensures
          (refused_at c.args.bindings.now c.requires.bound c.run_form.ensures.ran c.in_err-done.was);
    }
