-- `plain::deliver` meets its contract. Assumes nothing.
use mathlib.Core.Path.{◌∙◌}
use Rattle.plain.proofs.Delivery.{short_answered, short_kept, delivers_writable, room_answered, room_written}
use Rattle.plain.proofs.deliver.Goals as goal

pub returns-then-output-needed : goal.returns-then-output-needed
returns-then-output-needed c =
    record {
      answered = λ v s.
          c.output_short.ensures.set
          ∙ short_answered c.args.output.now c.args.steps c.written_length-needed.ensures.measured c.if-output-needed.true v s;
      kept = λ v s. short_kept c.args.output.now c.args.steps c.written_length-needed.ensures.measured c.if-output-needed.true v s;
    }

pub write_value-length-requires : goal.write_value-length-requires
write_value-length-requires c =
    delivers_writable c.args.output.now c.args.steps c.written_length-needed.ensures.measured c.if-output-needed.false c.requires

pub returns : goal.returns
returns c =
    record {
      answered = λ v s.
          c.written.ensures.set ∙ room_answered c.args.output.now c.args.steps c.written_length-needed.ensures.measured c.if-output-needed.false
          c.write_value-length.ensures.written v s;
      kept = λ v s.
          room_written c.args.output.now c.args.steps c.written_length-needed.ensures.measured c.if-output-needed.false
          c.write_value-length.ensures.written v s;
    }
