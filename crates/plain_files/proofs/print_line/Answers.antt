use Rattle.plain_files.proofs.Printing.{line_printed}
use Rattle.plain_files.proofs.print_line.Goals as goal

pub returns : goal.returns
returns g c =
    record {
      printed =
          line_printed
          (g.W.Write.contents c.args.to.now)
          (g.W.Write.contents c.write.new.self)
          (g.W.Write.contents c.print_written.new.to)
          (g.W.Write.contents c.write_all.new.self)
          c.write_all.result
          c.args.name.now
          c.figure.result
          (record { answer = c.args.answer; output = c.args.output.now })
          c.figure.ensures
          c.in_ok-write.ensures.bytes
          c.in_ok-print_written.ensures.printed
          c.write_all.ensures.bytes;
    }
