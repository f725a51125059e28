use Rattle.std.proofs.Common.{refl}
use Rattle.definitions.specs.Bytes.{bytes}
use Rattle.infer_stdin.proofs.Replies.{line_front}
use Rattle.infer_stdin.proofs.refuse.Goals as goal

pub returns-clause-told : goal.returns-clause-told
unfolding bytes
returns-clause-told c =
    line_front c.args.number c.args.place
    c.write_bytes-at.ensures.written
    c.write_decimal-at.ensures.written
    c.write_bytes-at-2.ensures.written
    c.write_decimal-at-2.ensures.written
    c.write_bytes.ensures.written
    refl
    refl
    refl
