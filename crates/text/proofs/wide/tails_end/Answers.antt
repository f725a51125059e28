-- `text::wide::tails_end` meets its contract. The loop's invariant: the bytes up to place i are read (`TailsSoFar`). The measure is how many are
-- left behind the next. Assumes nothing.
use mathlib.Core.Logic.{inl, inr}
use Rattle.definitions.specs.Text.{Inside}
use Rattle.text.proofs.Characters.{tails_start, tails_wrong, tails_next, tails_done}
use native.Mathlib.Omega.{arith}
use Rattle.text.proofs.wide.tails_end.Goals.{then-b-from-via-then-b-from, then-b-from-via-else-b-from+then-to-b}
use Rattle.text.proofs.wide.tails_end.Goals as goal

pub loop-from-init : goal.loop-from-init
loop-from-init c = let a = c.args in let p = c.requires in tails_start a.doc.now a.at a.lo a.hi a.more p.0 p.1 p.2

pub returns-then-b-from : goal.returns-then-b-from
returns-then-b-from c =
    record {
      read = let l = c.loop-from in
          let a = c.args in
          tails_wrong a.doc.now (Inside.tail a.lo a.hi a.more) a.at l.i l.from l.to l.left c.peek-b.result l.invariant
          c.peek-b.ensures.read
          (elim c.then-b-from.branch [ then-b-from-via-then-b-from w ↦ inl w.if-b-from.true | then-b-from-via-else-b-from+then-to-b w ↦ inr w.if-to-b.true ]);
    }

pub overflow_add-i : goal.overflow_add-i
overflow_add-i c = omega arith

pub returns-then-left-eq0 : goal.returns-then-left-eq0
returns-then-left-eq0 c =
    record {
      read = let l = c.loop-from in
          let a = c.args in
          tails_done a.doc.now (Inside.tail a.lo a.hi a.more) a.at l.i l.from l.to l.left c.peek-b.result l.invariant
          c.peek-b.ensures.read c.if-b-from.false c.if-to-b.false c.if-left-eq0.true;
    }

pub overflow_sub-left : goal.overflow_sub-left
overflow_sub-left c = omega arith

pub loop-from-smaller : goal.loop-from-smaller
loop-from-smaller c = omega arith

pub loop-from-preserved : goal.loop-from-preserved
loop-from-preserved c =
    let l = c.loop-from in
    let a = c.args in
    tails_next a.doc.now (Inside.tail a.lo a.hi a.more) a.at l.i l.from l.to l.left c.peek-b.result l.invariant
    c.peek-b.ensures.read c.if-b-from.false c.if-to-b.false c.if-left-eq0.false
