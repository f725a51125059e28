-- `running::places::run_operand` meets its contract. Assumes nothing.
use native.Mathlib.Omega.{arith}
use mathlib.Core.Path.{sym, subst}
use Rattle.running.specs.Walk.{SeesOperand}
use Rattle.running.proofs.Operands.{place_ready, place_within, place_refused, stuck, judged_at}
use Rattle.running.proofs.places.run_operand.Goals as goal

pub overflow_add-c : goal.overflow_add-c
overflow_add-c c =
    omega (arith, c.well_formed, place_within c.requires)

pub run_place-part-requires : goal.run_place-part-requires
run_place-part-requires c =
    place_ready c.requires

pub returns-in_default : goal.returns-in_default
returns-in_default c =
    record {
      seen = subst (SeesOperand c.args.t.now.forms.now c.args.t.now.nodes.now c.args.t.now.pool.now c.args.bindings.now c.args.t.now.limit c.args.c.row
          c.args.c.bound c.args.steps) (sym c.in_default.is)
          (place_refused c.requires.placed c.run_place-part.ensures.seen c.in_default.is);
    }

pub returns-then-is_wanted : goal.returns-then-is_wanted
returns-then-is_wanted c =
    record {
      seen = judged_at c.requires.placed c.run_place-part.ensures.seen c.in-Ok.is
          c.code.ensures.read
          c.is_wanted.ensures.told c.if-is_wanted.true;
    }

pub returns : goal.returns
returns c =
    record {
      seen = stuck c.requires.placed c.run_place-part.ensures.seen c.in-Ok.is
          c.code.ensures.read
          c.is_wanted.ensures.told c.if-is_wanted.false c.place.ensures.read;
    }
