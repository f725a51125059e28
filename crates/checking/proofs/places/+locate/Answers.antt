-- `checking::places::+locate` meets its contract. Assumes nothing.
use native.Mathlib.Omega.{arith}
use mathlib.Core.Path.{sym, subst}
use Rattle.checking.specs.CheckContracts.{GivesPlace}
use Rattle.checking.proofs.PlaceWalk.{place_within, it_located, part_asked, part_refused, member_asked, part_found}
use Rattle.checking.proofs.places.+locate.Goals as goal

pub returns-then-code-eq-IT : goal.returns-then-code-eq-IT
returns-then-code-eq-IT t c =
    record {
      found = it_located c.args.forms.now c.args.shapes.now c.args.pool.now c.args.bindings.now c.args.row
          c.code.ensures.read c.payload-operand.ensures.read c.if-code-eq-IT.true c.bound.ensures.row c.bound.ensures.kinds;
    }

pub overflow_add-row : goal.overflow_add-row
overflow_add-row t c =
    omega (arith, place_within c.requires, c.well_formed)

pub locate-part-requires : goal.locate-part-requires
locate-part-requires t c = (
  omega (arith, place_within c.requires, c.decreases),
  part_asked c.args.forms.now c.args.shapes.now c.args.pool.now c.args.bindings.now c.args.row
      c.code.ensures.read c.payload-operand.ensures.read c.if-code-eq-IT.false c.requires,
)

pub returns-in_default : goal.returns-in_default
returns-in_default t c =
    record {
      found = subst (GivesPlace c.args.forms.now c.args.shapes.now c.args.pool.now c.args.bindings.now c.args.row) (sym c.in_default.is)
          (part_refused c.args.forms.now c.args.shapes.now c.args.pool.now c.args.bindings.now c.args.row
          c.code.ensures.read c.payload-operand.ensures.read c.if-code-eq-IT.false c.locate-part.result c.locate-part.ensures.found
          c.in_default.is);
    }

pub member-requires : goal.member-requires
member-requires t c =
    member_asked c.args.forms.now c.args.shapes.now c.args.pool.now c.args.bindings.now c.args.row
    c.code.ensures.read c.payload-operand.ensures.read c.if-code-eq-IT.false c.locate-part.result c.locate-part.ensures.found
    c.in-Ok.is c.requires

pub returns : goal.returns
returns t c =
    record {
      found = part_found c.args.forms.now c.args.shapes.now c.args.pool.now c.args.bindings.now c.args.row
          c.code.ensures.read c.payload-operand.ensures.read c.if-code-eq-IT.false c.locate-part.result c.locate-part.ensures.found
          c.in-Ok.is c.member.result c.place.ensures.read c.member.ensures.found;
    }
