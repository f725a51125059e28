use Rattle.std.proofs.Common.{rules}
use Rattle.std.specs.Io.KnownBytes.{Appends}
use Rattle.std.proofs.lemmas.Result.{on_ok_weaker}
use Rattle.streams.proofs.Whole.{of_whole}
use Rattle.streams.proofs.Mapped.{ok_before, on_ok_behind}
use Rattle.infer_stdin.specs.Reply.{reply_to}
use Rattle.infer_stdin.proofs.Replies.{longs_alike}
use Rattle.infer_stdin.proofs.answer.Goals as goal

pub returns-clause-replied : goal.returns-clause-replied
returns-clause-replied g c =
    let filled = ok_before _ c.fill.result c.map_err.result c.map_err.ensures.cases c.map_err.ensures.variant c.in_ok-n.was in
    let counted = rw filled at c.fill.ensures.counted in
    let taken = rw filled at c.fill.ensures.taken in
    let ended = rw filled at c.fill.ensures.ended in
    on_ok_behind _ c.print_reply.result c.map_err-2.result c.map_err-2.ensures.variant
    (on_ok_weaker c.print_reply.result
    (λ replied.
    of_whole reply_to 16384 longs_alike c.fill.new.buffer c.in_ok-n.n (search rules) counted.0 _ _
    (λ bytes. Appends (g.W.Write.contents c.args.output.now) (g.W.Write.contents c.print_reply.new.to) bytes)
    taken ended replied)
    c.print_reply.ensures.replied)
