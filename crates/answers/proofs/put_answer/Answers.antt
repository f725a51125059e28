-- `answers::put_answer` meets its contract. Assumes nothing.
use Rattle.answers.proofs.Words.{five_words, flag}
use Rattle.answers.proofs.put_answer.Goals as goal

pub returns : goal.returns
returns c =
    record {
      written = five_words c.args.buffer.now c.args.answer (flag c.args.answer.yes) c.put_word.ensures.written
          c.put_word-2.ensures.written c.put_word-3.ensures.written c.put_word-4.ensures.written
          c.put_word-5.ensures.written;
    }
