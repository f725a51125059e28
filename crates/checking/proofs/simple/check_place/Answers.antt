-- `checking::simple::check_place` meets its contract. Assumes nothing.
use native.Mathlib.Omega.{arith}
use mathlib.Core.Path.{sym, subst}
use Rattle.checking.specs.CheckContracts.{GivesSimple}
use Rattle.checking.proofs.SimpleForms.{simple_within, place_asked, place_refused, keep_told, count_told, convert_told}
use Rattle.checking.proofs.simple.check_place.Goals as goal

pub overflow_add-row : goal.overflow_add-row
overflow_add-row c =
    omega (arith, simple_within c.requires.simple_asked, c.well_formed)

pub locate-found-requires : goal.locate-found-requires
locate-found-requires c =
    place_asked c.args.forms.now c.args.shapes.now c.args.pool.now c.args.bindings.now c.args.row
    c.requires.coded c.requires.placed c.requires.simple_asked

pub returns-in_default : goal.returns-in_default
returns-in_default c =
    record {
      checked = subst (GivesSimple c.args.forms.now c.args.shapes.now c.args.pool.now c.args.bindings.now c.args.row)
          (sym (c.refusal.ensures.passed _ c.in_default.is))
          (place_refused c.args.forms.now c.args.shapes.now c.args.pool.now c.args.bindings.now c.args.row
          c.requires.coded c.requires.placed c.locate-found.result c.locate-found.ensures.found c.in_default.is);
    }

pub returns-then-code-eq-KEEP : goal.returns-then-code-eq-KEEP
returns-then-code-eq-KEEP c =
    record {
      checked = keep_told c.args.forms.now c.args.shapes.now c.args.pool.now c.args.bindings.now
          c.args.row c.requires.coded c.requires.placed c.locate-found.result c.locate-found.ensures.found
          c.in-Ok.is c.if-code-eq-KEEP.true;
    }

pub returns-then-code-eq-COUNT : goal.returns-then-code-eq-COUNT
returns-then-code-eq-COUNT c =
    record {
      checked = count_told c.args.forms.now c.args.shapes.now c.args.pool.now c.args.bindings.now
          c.args.row c.requires.coded c.requires.placed c.locate-found.result c.locate-found.ensures.found
          c.in-Ok.is c.place-place.ensures.read c.want.result
          c.if-code-eq-COUNT.true c.want.ensures.told;
    }

pub returns : goal.returns
returns c =
    record {
      checked = convert_told c.args.forms.now c.args.shapes.now c.args.pool.now c.args.bindings.now
          c.args.row c.requires.coded c.requires.placed c.locate-found.result c.locate-found.ensures.found
          c.in-Ok.is c.place-place.ensures.read c.want-2.result c.if-code-eq-KEEP.false
          c.if-code-eq-COUNT.false c.conversion_kinds-converted.ensures.told c.want-2.ensures.told;
    }
