-- `text::unicode::read_low` meets its contract: `Surrogates` says how reading goes over a backslash, a `u` and the digits. Assumes nothing.
use mathlib.Core.Path.{refl, sym, ◌∙◌}
use mathlib.Core.Option.{some}
use Rattle.definitions.specs.Bytes.{found}
use Rattle.definitions.specs.Text.{Inside}
use Rattle.text.specs.TextParts.{ReadsCode}
use Rattle.text.proofs.Passed.{passed}
use Rattle.text.proofs.Surrogates.{low_wrong, low_wrong_u, u_within, low_breaks, low_read}
use Rattle.text.proofs.unicode.read_low.Goals as goal

pub returns-then-peek-ne92 : goal.returns-then-peek-ne92
returns-then-peek-ne92 c =
    record {
      read = let a = c.args in
          low_wrong a.doc.now a.at a.high c.requires.0 (λ e. c.if-peek-ne92.true (c.peek.ensures.read ∙ e));
    }

pub returns-then-peek-ne117 : goal.returns-then-peek-ne117
returns-then-peek-ne117 c =
    record {
      read = let a = c.args in
          low_wrong_u a.doc.now a.at a.high (sym c.peek.ensures.read ∙ c.if-peek-ne92.false)
          (λ e. c.if-peek-ne117.true (c.peek-2.ensures.read ∙ e));
    }

pub read_digits-requires : goal.read_digits-requires
read_digits-requires c =
    let a = c.args in
    u_within a.doc.now a.at a.high (sym c.peek.ensures.read ∙ c.if-peek-ne92.false)
    (sym c.peek-2.ensures.read ∙ c.if-peek-ne117.false)

pub overflow_sub-result-2 : goal.overflow_sub-result-2
overflow_sub-result-2 c = (c.in_ok-low.ensures.read.paired refl).0

pub returns-in_err-low : goal.returns-in_err-low
unfolding found
returns-in_err-low c =
    record {
      read = let a = c.args in
          passed (ReadsCode a.doc.now (Inside.pair a.high) a.at) c.from_residual.result c.from_residual.ensures.1
          (low_breaks a.doc.now a.at a.high (sym c.peek.ensures.read ∙ c.if-peek-ne92.false)
          (sym c.peek-2.ensures.read ∙ c.if-peek-ne117.false)
          c.in_err-low.field-0.0 (c.in_err-low.ensures.read (some a.high) refl));
    }

pub returns : goal.returns
returns c =
    record {
      read = let a = c.args in
          low_read a.doc.now a.at a.high (sym c.peek.ensures.read ∙ c.if-peek-ne92.false)
          (sym c.peek-2.ensures.read ∙ c.if-peek-ne117.false)
          c.in_ok-low.low.value c.in_ok-low.low.next c.requires.1 c.requires.2 c.in_ok-low.ensures.read;
    }
