use Rattle.std.proofs.Common.{subst}
use Rattle.std.specs.Prelude.{OnOk}
use Rattle.std.specs.Io.KnownBytes.{Appends}
use Rattle.definitions.specs.Limits.{standard}
use Rattle.plain_files.specs.Lines.{line_of}
use Rattle.plain_files.proofs.Judging.{done_judged}
use Rattle.plain_files.proofs.judge.Goals as goal

pub returns : goal.returns
unfolding standard
returns g c =
    record {
      printed =
          subst
          (λ done.
          OnOk c.print_line.result
          (Appends (g.W.Write.contents c.args.to.now) (g.W.Write.contents c.print_line.new.to) (line_of c.args.name.now done)))
          (done_judged c.args.document.now _ _ c.plain-answer.ensures.answered c.plain-answer.ensures.written)
          c.print_line.ensures.printed;
    }
