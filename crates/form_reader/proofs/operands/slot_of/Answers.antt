-- `form_reader::operands::slot_of` meets its contract. Assumes nothing.
use mathlib.Core.Path.{sym, ◌∙◌}
use native.Mathlib.Omega.{arith}
use Rattle.tokens.specs.TokenRead.{word_in}
use Rattle.form_reader.proofs.Indexes.{first_byte, no_number, with_minus, with_fraction, past_document, reaches}
use Rattle.form_reader.proofs.operands.slot_of.Goals as goal

pub returns-then-text-word-eq45 : goal.returns-then-text-word-eq45
unfolding word_in
returns-then-text-word-eq45 c =
    record {
      told = with_minus c.args.bound (word_in c.args.text.now c.args.word.place c.args.word.end) (first_byte
          c.args.text.now c.args.word.place c.args.word.end c.requires.0 ∙ c.if-text-word-eq45.true);
    }

pub returns-then-n-ne0 : goal.returns-then-n-ne0
unfolding word_in
returns-then-n-ne0 c =
    record {
      told =
          with_fraction c.args.bound (word_in c.args.text.now c.args.word.place c.args.word.end) c.in_ok-n.ensures.read c.if-n-ne0.true;
    }

pub returns-then-n-bound : goal.returns-then-n-bound
unfolding word_in
returns-then-n-bound c =
    record {
      told =
          reaches c.args.bound (word_in c.args.text.now c.args.word.place c.args.word.end) c.in_ok-n.ensures.read
          (λ e. c.if-text-word-eq45.false (sym (first_byte c.args.text.now c.args.word.place c.args.word.end c.requires.0) ∙ e))
          c.if-n-ne0.false c.if-n-bound.true;
    }

pub returns-else-n-bound : goal.returns-else-n-bound
unfolding word_in
returns-else-n-bound c =
    record {
      told =
          past_document c.args.bound (word_in c.args.text.now c.args.word.place c.args.word.end) c.in_ok-n.ensures.read
          (omega (arith, c.if-n-bound.false));
    }

pub returns-in_err-n : goal.returns-in_err-n
unfolding word_in
returns-in_err-n c =
    record {
      told = rw c.from_residual.ensures (no_number c.args.bound (word_in c.args.text.now c.args.word.place c.args.word.end) c.in_err-n.ensures.read);
    }
