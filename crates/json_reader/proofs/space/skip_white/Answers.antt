-- `json_reader::space::skip_white` meets its contract. The loop's invariant is `Skipping`: what stands before is white space.
-- Assumes nothing.
use mathlib.Core.Path.{sym, ap, ◌∙◌}
use native.Mathlib.Omega.{arith}
use Rattle.definitions.specs.Bytes.{white}
use Rattle.json_reader.proofs.White.{skipping, skipped, white_inside}
use Rattle.json_reader.proofs.space.skip_white.Goals as goal

pub loop-i-init : goal.loop-i-init
loop-i-init c = skipping c.requires

pub overflow_add-i : goal.overflow_add-i
overflow_add-i c =
    let here = sym (c.is_white.ensures.judged ∙ ap white c.peek.ensures.read) ∙ c.loop-i-test.true in
    omega (arith, white_inside c.args.doc.now c.loop-i.i here)

pub loop-i-smaller : goal.loop-i-smaller
loop-i-smaller c =
    let here = sym (c.is_white.ensures.judged ∙ ap white c.peek.ensures.read) ∙ c.loop-i-test.true in
    omega (arith, white_inside c.args.doc.now c.loop-i.i here)

pub loop-i-preserved : goal.loop-i-preserved
loop-i-preserved c =
    skipped c.loop-i.invariant (sym (c.is_white.ensures.judged ∙ ap white c.peek.ensures.read) ∙ c.loop-i-test.true)

pub returns : goal.returns
returns c =
    let inv = c.loop-i.invariant in
    record {
      skipped = record {
        run = inv.run;
        from = inv.from;
        within = inv.within;
        stops = sym (c.is_white.ensures.judged ∙ ap white c.peek.ensures.read) ∙ c.loop-i-test.false;
      };
    }
