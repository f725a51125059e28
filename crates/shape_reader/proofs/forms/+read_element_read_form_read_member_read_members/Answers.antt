-- The proof of the cycle of calls {read_element, read_form, read_member, read_members}. The nesting left falls: a shape's measure is three
-- times what is left, that of a member's shape one more, and its parts', whose shapes have one less, lies between. The loop's invariant says
-- what has been read of the members: `MembersSoFar`. Assumes nothing.
use native.Mathlib.Omega.{arith}
use Rattle.reading.proofs.Passed.{passed}
use Rattle.shape_reader.specs.ShapeParts.{ReadsForm, ReadsMembers}
use Rattle.shape_reader.proofs.ElementForms.{element_read, element_none}
use Rattle.shape_reader.proofs.LeafForms.{leaf_bounds, leaf_read}
use Rattle.shape_reader.proofs.MemberForms.{no_members, member_turn, last_turn}
use Rattle.shape_reader.proofs.MemberForms.{member_refused, member_open_still, member_read}
use Rattle.shape_reader.proofs.WholeForms.{element_refused, members_refused, row_bounds, form_read}
use Rattle.shape_reader.proofs.forms.+read_element_read_form_read_member_read_members.Goals as goal

pub read_element-returns-then-has : goal.read_element-returns-then-has
read_element-returns-then-has t c =
    record { read = element_read c.args.c c.has.ensures.told c.if-has.true c.read_form.ensures.read }

pub read_element-returns-else-has : goal.read_element-returns-else-has
read_element-returns-else-has t c =
    record { read = element_none c.args.c c.requires c.has.ensures.told c.if-has.false }

pub read_form-returns-in_err-behind : goal.read_form-returns-in_err-behind
read_form-returns-in_err-behind t c =
    record {
      read = passed
          (ReadsForm c.args.left c.args.values c.args.text.now c.args.shapes.now c.args.pool.now c.read_element.new.shapes
          c.read_element.new.pool c.args.name c.args.c)
          c.from_residual-in_err-behind.ensures
          (element_refused c.args.name c.args.c c.requires c.in_ok-head.ensures.read c.in_err-behind.ensures.read);
    }

pub read_form-returns-in_err-to : goal.read_form-returns-in_err-to
read_form-returns-in_err-to t c =
    record {
      read = passed
          (ReadsForm c.args.left c.args.values c.args.text.now c.args.shapes.now c.args.pool.now c.read_members.new.shapes
          c.read_members.new.pool c.args.name c.args.c)
          c.from_residual-in_err-to.ensures
          (members_refused c.args.name c.args.c c.requires c.in_ok-head.ensures.read c.in_ok-behind.ensures.read c.in_err-to.ensures.read);
    }

pub read_form-put_row-requires-clause-fits : goal.read_form-put_row-requires-clause-fits
read_form-put_row-requires-clause-fits t c =
    let bounds = row_bounds c.args.name c.args.c c.requires c.in_ok-head.ensures.read c.in_ok-behind.ensures.read c.in_ok-to.ensures.read in
    omega (arith, bounds.1, bounds.2)

pub read_form-returns : goal.read_form-returns
read_form-returns t c =
    record {
      read = form_read c.args.name c.args.c c.requires c.in_ok-head.ensures.read c.in_ok-behind.ensures.read c.in_ok-to.ensures.read
          c.put_row.ensures.put;
    }

pub read_member-put_row-requires-clause-fits : goal.read_member-put_row-requires-clause-fits
read_member-put_row-requires-clause-fits t c =
    omega (arith, (leaf_bounds c.args.name c.args.c c.requires c.in-Some.ensures.found).2)

pub read_member-returns-in-Some : goal.read_member-returns-in-Some
read_member-returns-in-Some t c =
    record { read = leaf_read c.args.name c.args.c c.requires c.in-Some.ensures.found c.put_row.ensures.put }

pub read_members-loop-from-init : goal.read_members-loop-from-init
read_members-loop-from-init t c = no_members c.args.left c.args.kinds.kinds c.args.c c.requires

pub read_members-returns-in_err-to-in-More : goal.read_members-returns-in_err-to-in-More
read_members-returns-in_err-to-in-More t c =
    record {
      read = passed
          (ReadsMembers c.args.left c.args.values c.args.text.now c.args.shapes.now c.args.pool.now c.read_member.new.shapes
          c.read_member.new.pool c.args.kinds.kinds c.args.c)
          c.from_residual-in_err-to-in-More.ensures
          (member_refused c.args.c c.in-More.from
          (member_turn c.args.c c.loop-from.here c.loop-from.invariant c.in_ok-from.ensures.read c.in-More.is)
          c.in_err-to-in-More.ensures.read);
    }

pub read_members-returns-in_err-here-in-More : goal.read_members-returns-in_err-here-in-More
read_members-returns-in_err-here-in-More t c =
    record {
      read = passed
          (ReadsMembers c.args.left c.args.values c.args.text.now c.args.shapes.now c.args.pool.now c.read_member.new.shapes
          c.read_member.new.pool c.args.kinds.kinds c.args.c)
          c.from_residual-in_err-here-in-More.ensures
          (member_open_still c.args.c c.in-More.from
          (member_turn c.args.c c.loop-from.here c.loop-from.invariant c.in_ok-from.ensures.read c.in-More.is)
          c.in_ok-to-in-More.ensures.read c.in_err-here-in-More.ensures.read);
    }

pub read_members-loop-from-preserved : goal.read_members-loop-from-preserved
read_members-loop-from-preserved t c =
    member_read c.args.c c.in-More.from
    (member_turn c.args.c c.loop-from.here c.loop-from.invariant c.in_ok-from.ensures.read c.in-More.is)
    c.in_ok-to-in-More.ensures.read c.in_ok-here-in-More.ensures.read

pub read_members-returns-in-End : goal.read_members-returns-in-End
read_members-returns-in-End t c =
    record { read = last_turn c.args.c c.loop-from.here c.loop-from.invariant c.in_ok-from.ensures.read c.in-End.is }
