-- `text::pieces::put_bytes` meets its contract. The loop's invariant: the first i bytes are put. Assumes nothing.
use Prim.Native.Nat.{◌+◌}
use native.Mathlib.Omega.{arith}
use lib.ListN.{length}
use Rattle.pool.specs.PoolLaws.{words_bytes}
use Rattle.text.proofs.Puts.{puts_none, next_room, puts_next, puts_all}
use Rattle.text.proofs.pieces.put_bytes.Goals as goal

pub loop-i-init : goal.loop-i-init
loop-i-init c = puts_none c.args.pool.now c.args.w c.args.n

pub overflow_add-w : goal.overflow_add-w
overflow_add-w c =
    let a = c.args in
    omega (arith, words_bytes a.w (a.n + length a.bytes.now) (length a.pool.now) c.requires, c.well_formed)

pub overflow_add-w-in-loop-i : goal.overflow_add-w-in-loop-i
overflow_add-w-in-loop-i c =
    let a = c.args in
    omega (arith, words_bytes a.w (a.n + length a.bytes.now) (length a.pool.now) c.requires, c.well_formed)

pub put_byte-requires : goal.put_byte-requires
put_byte-requires c = next_room c.args.bytes.now c.loop-i.invariant c.requires c.loop-i-test.true

pub loop-i-preserved : goal.loop-i-preserved
loop-i-preserved c = puts_next c.args.bytes.now c.loop-i.invariant c.requires c.loop-i-test.true c.put_byte.ensures.put

pub returns : goal.returns
returns c = record { put = puts_all c.args.bytes.now c.loop-i.invariant c.requires c.loop-i-test.false }
