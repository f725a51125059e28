-- `shape_writer::measure` meets its contract: forms, nesting and bytes are judged one after the other. Assumes nothing.
use native.Mathlib.Omega.{arith}
use Rattle.shape_writer.proofs.Bounds.{text_bound, printable}
use Rattle.shape_writer.proofs.Delivery.{over_forms, over_levels, over_bytes, fits}
use Rattle.shape_writer.proofs.measure.Goals.{then-limits-size-via-then-limits-size, then-limits-size-via-else-limits-size+then-is_deeper}
use Rattle.shape_writer.proofs.measure.Goals as goal

pub is_deeper-requires : goal.is_deeper-requires
is_deeper-requires c =
    record {
      used = c.requires.holds.used;
      name = c.requires.holds.name;
      shape = c.requires.shape;
      stands = c.requires.holds.stands;
    }

pub returns-then-limits-size : goal.returns-then-limits-size
returns-then-limits-size c =
    elim c.then-limits-size.branch [
      | then-limits-size-via-then-limits-size w ↦ record { judged = over_forms c.args.limits c.size.ensures.read (omega (arith, w.if-limits-size.true)) }
      | then-limits-size-via-else-limits-size+then-is_deeper w ↦
          record { judged = over_levels c.args.limits w.is_deeper.ensures.told w.if-is_deeper.true }
    ]

pub form_length-length-requires : goal.form_length-length-requires
form_length-length-requires c =
    printable c.requires (omega (arith, text_bound c.requires))

pub overflow_add-length : goal.overflow_add-length
overflow_add-length c =
    omega (arith, c.form_length-length.ensures.measured c.requires.shape c.requires.holds, text_bound c.requires)

pub returns-else-length-limits : goal.returns-else-length-limits
returns-else-length-limits c =
    record { judged = over_bytes c.args.limits c.form_length-length.ensures.measured (omega (arith, c.if-length-limits.false)) }

pub returns-then-length-limits : goal.returns-then-length-limits
returns-then-length-limits c =
    record {
      judged = fits
          c.args.limits
          c.size.ensures.read
          (omega (arith, c.if-limits-size.false))
          c.is_deeper.ensures.told
          c.if-is_deeper.false
          c.form_length-length.ensures.measured
          (omega (arith, c.if-length-limits.true));
    }
