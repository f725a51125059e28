-- `text::write::write_inside` meets its contract. The loop's invariant: what stands before word k is written up to place j (`Onward`). The measure is
-- how many bytes are left. Assumes nothing.
use mathlib.Core.Path.{sym, ap, ◌∙◌}
use native.Mathlib.Omega.{arith}
use lib.ListN.{length, get_or}
use Rattle.pool.specs.PoolLaws.{length_unpacked}
use Rattle.text.specs.WritesLaws.{writes_as}
use Rattle.text.proofs.Onward.{bare_whole, word_within, onward_start, onward_length, onward_room, onward_room_word}
use Rattle.text.proofs.Onward.{onward_word, onward_rest}
use Rattle.text.proofs.write.write_inside.Goals as goal

pub loop-left-init : goal.loop-left-init
loop-left-init c = let a = c.args in onward_start a.pool.now a.w a.n a.out.now a.at c.requires.0

pub offset_bounds-pool-k : goal.offset_bounds-pool-k
offset_bounds-pool-k c =
    let l = c.loop-left in
    omega (arith, word_within c.args.pool.now l.k l.left l.invariant.room (omega (arith, c.loop-left-test.true)), c.well_formed)

pub bounds-pool-k : goal.bounds-pool-k
bounds-pool-k c =
    let l = c.loop-left in
    word_within c.args.pool.now l.k l.left l.invariant.room (omega (arith, c.loop-left-test.true))

pub write_mixed-requires : goal.write_mixed-requires
write_mixed-requires c =
    (c.loop-left.invariant.room, onward_room c.loop-left.invariant c.requires.1)

pub shape_of-out-then-not-is_bare : goal.shape_of-out-then-not-is_bare
shape_of-out-then-not-is_bare c =
    c.write_mixed.auto.out ∙ onward_length c.loop-left.invariant c.requires.1

pub returns-then-not-is_bare : goal.returns-then-not-is_bare
returns-then-not-is_bare c = record { written = onward_rest c.loop-left.invariant c.requires.1 c.write_mixed.ensures.written }

pub store-j-requires : goal.store-j-requires
store-j-requires c =
    let x = get_or c.args.pool.now c.loop-left.k 0 in
    omega (
      arith,
      onward_room_word c.loop-left.invariant c.requires.1 c.loop-left-test.true,
      ap length (bare_whole x (c.is_bare.ensures.told c.if-not-is_bare.false)),
      length_unpacked x,
    )

pub overflow_add-k : goal.overflow_add-k
overflow_add-k c =
    let l = c.loop-left in
    omega (arith, word_within c.args.pool.now l.k l.left l.invariant.room (omega (arith, c.loop-left-test.true)), c.well_formed)

pub loop-left-smaller : goal.loop-left-smaller
loop-left-smaller c =
    omega (arith, c.loop-left-test.true)

pub loop-left-preserved : goal.loop-left-preserved
loop-left-preserved c =
    let x = get_or c.args.pool.now c.loop-left.k 0 in
    onward_word c.loop-left.invariant c.requires.1 c.loop-left-test.true
    (writes_as (sym (bare_whole x (c.is_bare.ensures.told c.if-not-is_bare.false)))
    c.store-j.ensures.stored)

pub write_end-requires : goal.write_end-requires
write_end-requires c =
    (omega (arith, c.loop-left-test.false), c.loop-left.invariant.room, onward_room c.loop-left.invariant c.requires.1)

pub shape_of-out : goal.shape_of-out
shape_of-out c =
    c.write_end.auto.out ∙ onward_length c.loop-left.invariant c.requires.1

pub returns : goal.returns
returns c = record { written = onward_rest c.loop-left.invariant c.requires.1 c.write_end.ensures.written }
