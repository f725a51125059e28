-- `json_reader::scalar::read_number_value` meets its contract. Assumes nothing.
use native.Mathlib.Omega.{arith}
use Rattle.json_reader.proofs.Answers.{as_word}
use Rattle.json_reader.proofs.Scalars.{number_none, number_beyond, number_full, number_read, number_broken, number_broken_full, number_bounded}
use Rattle.json_reader.proofs.NumberLengths.{number_as_read}
use Rattle.json_reader.proofs.scalar.read_number_value.Goals as goal

pub returns-then-x-c : goal.returns-then-x-c
returns-then-x-c c =
    record {
      read = λ pool. as_word c.refused.ensures.packed
          (number_none c.args.c c.requires.0 c.requires.1 c.read_number-x.ensures pool c.if-x-c.true);
    }

pub returns-then-x-2 : goal.returns-then-x-2
returns-then-x-2 c =
    record {
      read = λ pool.
          as_word c.refused-then-x-2.ensures.packed
          (number_beyond c.args.c c.requires.0 c.requires.1 c.read_number-x.ensures pool
          c.if-x-c.false c.is_full-full.ensures.judged c.if-x.true
          c.if-x-2.true);
    }

pub returns-then-full : goal.returns-then-full
returns-then-full c =
    record {
      read = λ pool.
          as_word c.refused-then-full.ensures.packed
          (number_full c.args.c c.requires.0 c.requires.1 c.read_number-x.ensures pool c.if-x-c.false
          c.is_full-full.ensures.judged c.if-x.true
          c.if-x-2.false c.if-full.true);
    }

pub put_number-requires : goal.put_number-requires
put_number-requires c =
    let free = c.is_full-full.ensures.judged.within c.if-full.false in record {
      row = (
        omega (arith, free.0, c.requires.0.rows),
        omega (arith, free.0, c.requires.0.few),
        number_bounded c.read_number-x.ensures c.if-x-2.false,
        number_as_read c.requires.0.within c.read_number-x.ensures c.if-x.true
            c.if-x-2.false,
      );
      packed = (omega (arith, c.read_number-x.ensures.within, c.requires.0.short), c.requires.0.small);
    }

pub returns-then-x : goal.returns-then-x
returns-then-x c =
    record {
      read = λ pool.
          number_read c.args.c c.requires.0 c.requires.1 c.read_number-x.ensures pool c.if-x-c.false
          c.is_full-full.ensures.judged c.if-x.true
          c.if-x-2.false c.if-full.false c.put_number.ensures.put;
    }

pub returns-then-full-2 : goal.returns-then-full-2
returns-then-full-2 c =
    record {
      read = λ pool.
          as_word c.refused-then-full-2.ensures.packed
          (number_broken_full c.args.c c.requires.0 c.requires.1 c.read_number-x.ensures pool
          c.if-x-c.false c.is_full-full.ensures.judged c.if-x.false
          c.if-full-2.true);
    }

pub returns : goal.returns
returns c =
    record {
      read = λ pool.
          as_word c.refused-2.ensures.packed
          (number_broken c.args.c c.requires.0 c.requires.1 c.read_number-x.ensures pool
          c.if-x-c.false c.is_full-full.ensures.judged c.if-x.false
          c.if-full-2.false);
    }
