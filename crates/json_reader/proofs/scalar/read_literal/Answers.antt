-- `json_reader::scalar::read_literal` meets its contract. Assumes nothing.
use Prim.Native.Nat.{ℕ}
use mathlib.Core.Path.{ap, ◌∙◌}
use native.Mathlib.Omega.{arith}
use Rattle.json_reader.proofs.Answers.{as_word}
use Rattle.json_reader.proofs.Scalars.{literal_full, literal_broken, literal_read, literal_code}
use Rattle.nodes.specs.RowLaws.{with_row}
use Rattle.json_reader.proofs.scalar.read_literal.Goals as goal

pub returns-then-is_full : goal.returns-then-is_full
returns-then-is_full c =
    record {
      read = λ pool.
          as_word c.refused.ensures.packed
          (literal_full c.args.c c.requires.1 c.requires.2 c.requires.0 pool
          c.if-is_full.ensures.judged);
    }

pub returns-then-k-literal : goal.returns-then-k-literal
returns-then-k-literal c =
    record {
      read = λ pool.
          as_word c.refused-then-k-literal.ensures.packed
          (literal_broken c.args.c c.requires.1 c.requires.2 c.requires.0 pool
          c.if-is_full.ensures.judged
          c.matching-k.ensures.matched c.if-k-literal.true);
    }

pub head_word-requires : goal.head_word-requires
head_word-requires c =
    omega (arith, c.matching-k.ensures.matched.within, c.requires.0.short, literal_code c.requires.1)

pub put_row-requires : goal.put_row-requires
put_row-requires c =
    let free = c.is_full.ensures.judged.within c.if-is_full.false in
    omega (arith, free.0, c.requires.0.rows)

pub returns : goal.returns
returns c =
    record {
      read = λ pool.
          as_word c.done.ensures.packed
          (literal_read c.args.c c.requires.1 c.requires.2 c.requires.0 pool
          c.if-is_full.ensures.judged
          c.matching-k.ensures.matched c.if-k-literal.false
          (c.put_row.ensures.put
          ∙ ap (λ (h : ℕ). with_row c.args.nodes.now c.args.c.begun h 0 c.args.name)
          c.head_word.ensures.made));
    }
