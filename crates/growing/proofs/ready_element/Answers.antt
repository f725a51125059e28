-- `growing::ready_element` meets its contract. Assumes nothing.
use native.Mathlib.Omega.{arith}
use Rattle.shapes.specs.ShapesLaws.{bit_tested}
use Rattle.growing.specs.GrowingForms.{forms_some}
use Rattle.growing.proofs.Elements.{ready_listed, ready_opened}
use Rattle.growing.proofs.ready_element.Goals as goal

pub returns-then-has : goal.returns-then-has
returns-then-has c =
    record {
      ready = λ p m s h i. ready_listed c.args.used s h i c.requires.room.enough
          (bit_tested 32 c.kinds.ensures.read c.if-has.ensures.told);
    }

pub open_row-requires : goal.open_row-requires
open_row-requires c =
    record { room = c.requires.room; inside = omega (arith, c.requires.shape_held.within, forms_some c.requires.shape_held.old); small = omega arith }

pub returns : goal.returns
returns c =
    record {
      ready = λ p m s h i. ready_opened c.args.used c.open_row.new.shapes s h
          (bit_tested 32 c.kinds.ensures.read c.if-has.ensures.told)
          c.open_row.result
          c.open_row.ensures.opened;
    }
