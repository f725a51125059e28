-- `forms::has_name` meets its contract: what is left of the pairs has the name where all have it. Assumes nothing.
use native.Mathlib.Omega.{arith}
use Rattle.forms.proofs.Names.{walk_begins, walk_step, walk_found, walk_on, walk_ends}
use Rattle.forms.proofs.has_name.Goals as goal

pub loop-row-init : goal.loop-row-init
loop-row-init c =
    walk_begins c.args.forms.now c.args.pool.now c.args.from c.args.end c.args.w c.args.n

pub returns-then-same_text : goal.returns-then-same_text
returns-then-same_text c =
    record {
      found = walk_found c.args.forms.now c.args.pool.now c.args.from c.args.end c.args.w
          c.args.n c.loop-row.invariant c.name-k.ensures.read c.text_word.ensures.split
          c.text_bytes.ensures.split c.same_text.ensures.compared c.loop-row-test.true c.if-same_text.true;
    }

pub overflow_add-row : goal.overflow_add-row
overflow_add-row c =
    let s = walk_step c.args.forms.now c.args.pool.now c.args.from c.args.end
    c.args.w c.args.n c.loop-row.invariant c.requires c.loop-row-test.true in omega (arith, c.size-row.ensures.read, s.1)

pub loop-row-smaller : goal.loop-row-smaller
loop-row-smaller c =
    let s = walk_step c.args.forms.now c.args.pool.now c.args.from c.args.end
    c.args.w c.args.n c.loop-row.invariant c.requires c.loop-row-test.true in omega
    (arith, c.size-row.ensures.read, c.loop-row-test.true, s.0, s.2)

pub loop-row-preserved : goal.loop-row-preserved
loop-row-preserved c =
    walk_on c.args.forms.now c.args.pool.now c.args.from c.args.end c.args.w
    c.args.n c.loop-row.invariant c.name-k.ensures.read c.text_word.ensures.split
    c.text_bytes.ensures.split c.same_text.ensures.compared c.loop-row-test.true c.if-same_text.false c.size-row.ensures.read

pub returns : goal.returns
returns c =
    record {
      found = walk_ends c.args.forms.now c.args.pool.now c.args.from c.args.end c.args.w
          c.args.n c.loop-row.invariant c.loop-row-test.false;
    }
