-- `answers::put_word` meets its contract. Assumes nothing.
use Rattle.std.proofs.Common.{◌≡◌, ◌∙◌, ◌++◌, ◌+◌, ◌-◌, take, drop, sym, ap, arith}
use Rattle.std.proofs.lemmas.Grind.{common_steps}
use borrow.Rule.Slice.PartMut.{put_mid}
use Rattle.definitions.specs.Calls.{little_endian}
use Rattle.definitions.specs.Bytes.{Bytes}
use Rattle.answers.proofs.Words.{word_bytes}
use Rattle.answers.proofs.put_word.Goals as goal

pub returns : goal.returns
returns c =
    let o = c.args.buffer.now in
    let at = c.args.at in
    let part = c.copy_from_slice.new.self in
    let e : put_mid at (at + 8 - at) o part ≡ take at o ++ part ++ drop (at + 8) o = grind (arith, common_steps) in
    let bytes : part ≡ little_endian 8 c.args.word =
    c.copy_from_slice.ensures.after ∙ c.to_le_bytes.ensures ∙ sym (word_bytes c.args.word) in
    record { written = e ∙ ap (λ (x : Bytes). take at o ++ x ++ drop (at + 8) o) bytes }
