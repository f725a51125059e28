-- `shape_writer::deliver` meets its contract: refusal 11, refusal 15, or the text. Assumes nothing.
use Prim.Native.Nat.{ℕ}
use mathlib.Core.Path.{ap, ◌∙◌}
use native.Mathlib.Omega.{arith}
use Rattle.definitions.specs.Operations.{refusal}
use Rattle.shape_writer.proofs.Bounds.{printable}
use Rattle.shape_writer.proofs.Delivery.{delivers_over, delivers_short, fitting, delivers_written}
use Rattle.shape_writer.proofs.deliver.Goals as goal

pub returns-in_default : goal.returns-in_default
returns-in_default c =
    let facts = delivers_over c.args.shapes.now c.args.pool.now c.args.limits c.args.output.now
    c.measure.ensures.judged c.in_default.is
    (c.refusal.ensures.set ∙ ap (λ (n : ℕ). refusal n 0 0) c.number.ensures.told) in record { answered = facts.0; kept = facts.1 }

pub returns-then-output-length : goal.returns-then-output-length
returns-then-output-length c =
    let facts = delivers_short c.args.shapes.now c.args.pool.now c.args.limits c.args.output.now
    c.measure.ensures.judged c.in-Some.is (omega (arith, c.if-output-length.true)) c.output_short.ensures.set in
    record { answered = facts.0; kept = facts.1 }

pub write_form-end-requires : goal.write_form-end-requires
write_form-end-requires c =
    printable c.requires (omega (
      arith,
      fitting c.args.shapes.now c.args.pool.now c.args.limits c.args.output.now
          c.measure.ensures.judged c.requires c.in-Some.is,
      c.if-output-length.false,
    ))

pub write_bytes-requires : goal.write_bytes-requires
write_bytes-requires c =
    omega (
      arith,
      fitting c.args.shapes.now c.args.pool.now c.args.limits c.args.output.now
          c.measure.ensures.judged c.requires c.in-Some.is,
      c.if-output-length.false,
      (c.write_form-end.ensures.written c.requires.shape c.requires.holds).end,
      c.write_form-end.auto.out,
    )

pub returns : goal.returns
returns c =
    let facts = delivers_written
    c.args.shapes.now
    c.args.pool.now
    c.args.limits
    c.args.output.now
    c.measure.ensures.judged
    c.in-Some.is
    (omega (arith, c.if-output-length.false))
    c.write_form-end.ensures.written
    c.write_bytes.ensures.written
    c.written.ensures.set in record { answered = facts.0; kept = facts.1 }
