-- `text::wide::wide_end` meets its contract: a first byte, then its tails (`Characters`). Assumes nothing.
use mathlib.Core.Path.{sym, ap, ◌∙◌}
use Rattle.definitions.specs.Bytes.{look}
use Rattle.definitions.specs.Utf8.{head_table}
use Rattle.text.specs.TextParts.{tails_as}
use Rattle.text.proofs.Characters.{heads_of, heads_low, heads_high, head_wide, head_wrong}
use native.Mathlib.Omega.{arith}
use Rattle.text.proofs.wide.wide_end.Goals as goal

pub tails_end-requires : goal.tails_end-requires
unfolding tails_as
tails_end-requires c =
    let p = c.requires.0 in
    let h = heads_of (ap (look head_table) (sym c.peek.ensures.read) ∙ sym c.tails_of.ensures.told ∙ ap tails_as c.in-Some.is) in
    (omega arith, heads_low h, heads_high h)

pub returns-in-Some : goal.returns-in-Some
unfolding tails_as
returns-in-Some c =
    record {
      read = let a = c.args in
          let p = c.requires in
          head_wide a.doc.now a.at p.0 p.1 c.in-Some.field-0.0 c.in-Some.field-0.1 c.in-Some.field-0.2
          (ap (look head_table) (sym c.peek.ensures.read) ∙ sym c.tails_of.ensures.told ∙ ap tails_as c.in-Some.is)
          c.tails_end.result c.tails_end.ensures.read;
    }

pub returns-in-None : goal.returns-in-None
unfolding tails_as
returns-in-None c =
    record {
      read = let a = c.args in
          let p = c.requires in
          head_wrong a.doc.now a.at p.0 p.1
          (ap (look head_table) (sym c.peek.ensures.read) ∙ sym c.tails_of.ensures.told ∙ ap tails_as c.in-None.is);
    }
