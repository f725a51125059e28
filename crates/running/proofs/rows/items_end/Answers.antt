-- `running::rows::items_end` meets its contract. Assumes nothing.
use native.Mathlib.Omega.{arith}
use Rattle.running.specs.BindingsLaws.{bound_within}
use Rattle.running.proofs.Elements.{ends_none, ends_list, list_within}
use Rattle.running.proofs.rows.items_end.Goals as goal

pub overflow_add-result : goal.overflow_add-result
overflow_add-result c =
    omega (arith, c.row_size.ensures.sized, list_within c.requires c.row_kind.ensures.read c.if-row_kind-eq-LIST.true)

pub returns-then-row_kind-eq-LIST : goal.returns-then-row_kind-eq-LIST
returns-then-row_kind-eq-LIST c = record { told = ends_list c.row_kind.ensures.read c.if-row_kind-eq-LIST.true c.row_size.ensures.sized }

pub overflow_add-result-2 : goal.overflow_add-result-2
overflow_add-result-2 c =
    omega (arith, bound_within c.requires.bound, c.requires.small)

pub returns : goal.returns
returns c = record { told = ends_none c.row_kind.ensures.read c.if-row_kind-eq-LIST.false }
