-- `number::word::read_word` meets its contract. Assumes nothing.
use Rattle.std.proofs.lemmas.Bool.{not-true, not-false}
use Rattle.number.proofs.WordNumbers.{word_cut, word_beyond, word_broken, word_whole}
use Rattle.number.proofs.word.read_word.Goals.{then-n-word-via-then-n-word, then-n-word-via-else-n-word+then-n, then-n-word-via-else-n-word+else-n+then-not-n}
use Rattle.number.proofs.word.read_word.Goals as goal

pub returns-then-n-word : goal.returns-then-n-word
returns-then-n-word c =
    record {
      read = elim c.then-n-word.branch [
        | then-n-word-via-then-n-word w ↦ word_cut c.slow_number-n.ensures w.if-n-word.true
        | then-n-word-via-else-n-word+then-n w ↦ word_beyond c.slow_number-n.ensures w.if-n-word.false w.if-n.true
        | then-n-word-via-else-n-word+else-n+then-not-n w ↦ word_broken c.slow_number-n.ensures w.if-n-word.false (not-true _ w.if-not-n.true)
      ];
    }

pub returns : goal.returns
returns c = record { read = word_whole c.slow_number-n.ensures c.if-n-word.false c.if-n.false (not-false _ c.if-not-n.false) }
