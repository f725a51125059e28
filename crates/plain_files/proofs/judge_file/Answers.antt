use Rattle.std.proofs.Common.{rules}
use Rattle.std.specs.Io.KnownBytes.{Appends}
use Rattle.std.proofs.lemmas.Result.{on_ok_weaker}
use Rattle.streams.proofs.Whole.{of_whole}
use Rattle.streams.proofs.Mapped.{ok_before, on_ok_behind}
use Rattle.plain_files.specs.Lines.{line_of, judged}
use Rattle.plain_files.proofs.Judging.{longs_alike}
use Rattle.plain_files.proofs.judge_file.Goals as goal

pub returns-clause-printed : goal.returns-clause-printed
returns-clause-printed g c =
    let filled = ok_before _ c.fill.result c.map_err.result c.map_err.ensures.cases c.map_err.ensures.variant c.in_ok-n.was in
    let counted = rw filled at c.fill.ensures.counted in
    let taken = rw filled at c.fill.ensures.taken in
    let ended = rw filled at c.fill.ensures.ended in
    on_ok_behind _ c.judge.result c.map_err-2.result c.map_err-2.ensures.variant
    (on_ok_weaker c.judge.result
    (λ printed.
    of_whole judged 16384 longs_alike c.fill.new.buffer c.in_ok-n.n (search rules) counted.0 _ _
    (λ done. Appends (g.W.Write.contents c.args.to.now) (g.W.Write.contents c.judge.new.to) (line_of c.args.name.now done))
    taken ended printed)
    c.judge.ensures.printed)
