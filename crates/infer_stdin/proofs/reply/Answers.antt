use Rattle.std.proofs.Common.{◌∙◌}
use Rattle.definitions.specs.Bytes.{bytes}
use Rattle.definitions.specs.Limits.{standard}
use Rattle.infer_stdin.specs.Reply.{reply_to}
use Rattle.infer_stdin.proofs.Replies.{accepts, refuses}
use Rattle.infer_stdin.proofs.reply.Goals as goal

pub returns-then-answer-eq0-clause-counted : goal.returns-then-answer-eq0-clause-counted
unfolding bytes standard
returns-then-answer-eq0-clause-counted c =
    (accepts (bytes "(shape)") c.args.document.now c.args.output.now c.requires
    (c.infer-answer.ensures.answered, c.infer-answer.ensures.written) c.if-answer-eq0.true).0

pub returns-then-answer-eq0-clause-replied : goal.returns-then-answer-eq0-clause-replied
unfolding reply_to bytes standard
returns-then-answer-eq0-clause-replied c =
    (accepts (bytes "(shape)") c.args.document.now c.args.output.now c.requires
    (c.infer-answer.ensures.answered, c.infer-answer.ensures.written) c.if-answer-eq0.true).1

pub returns-clause-replied : goal.returns-clause-replied
unfolding reply_to bytes standard
returns-clause-replied c =
    c.refuse.ensures.told
    ∙ refuses (bytes "(shape)") c.args.document.now c.args.output.now c.requires
    (c.infer-answer.ensures.answered, c.infer-answer.ensures.written) c.if-answer-eq0.false
