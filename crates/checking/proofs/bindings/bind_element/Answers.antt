-- `checking::bindings::bind_element` meets its contract. Assumes nothing.
use mathlib.Core.Path.{sym, ◌∙◌}
use native.Mathlib.Omega.{arith}
use Rattle.checking.proofs.Elements.{row_within, element_bound, nothing_bound}
use Rattle.checking.proofs.bindings.bind_element.Goals as goal

pub overflow_add-row : goal.overflow_add-row
overflow_add-row c =
    omega (arith, row_within c.requires.there, c.requires.small)

pub bind-requires : goal.bind-requires
bind-requires c =
    record { slot_in_bounds = c.requires.slot_in_bounds; fits = omega (arith, row_within c.requires.there, c.requires.small, c.kinds-kinds.ensures.read) }

pub bind-requires-else-has : goal.bind-requires-else-has
bind-requires-else-has c =
    record { slot_in_bounds = c.requires.slot_in_bounds; fits = omega (arith, row_within c.requires.there, c.requires.small) }

pub returns-then-has : goal.returns-then-has
returns-then-has c =
    record {
      element = element_bound c.args.shapes.now c.args.bindings.now c.bind.new.bindings c.args.slot
          c.args.of.row c.args.of.kinds.kinds c.requires.slot_in_bounds c.kinds-kinds.result.kinds
          (sym c.has.ensures.told ∙ c.if-has.true)
          c.kinds-kinds.ensures.read c.bind.ensures.put;
    }

pub returns-else-has : goal.returns-else-has
returns-else-has c =
    record {
      element = nothing_bound c.args.shapes.now c.args.bindings.now c.bind-else-has.new.bindings c.args.slot
          c.args.of.row c.args.of.kinds.kinds c.requires.slot_in_bounds (sym c.has.ensures.told ∙ c.if-has.false) c.bind-else-has.ensures.put;
    }
