-- `text::eight::put_part` meets its contract. Assumes nothing.
use Prim.Native.Nat.{◌+◌, ◌*◌, ◌/◌, ◌%◌, ◌^◌}
use lib.Bits.{bit_or}
use lib.ListN.{take, get_or, length-set}
use Rattle.pool.specs.Pool.{unpacked}
use Rattle.text.proofs.PutWords.{puts_word, puts_part, room_word, room_words, front_size, word_joined, word_behind}
use native.Mathlib.Omega.{arith}
use Rattle.text.proofs.eight.put_part.Goals as goal

pub offset_bounds-pool-k : goal.offset_bounds-pool-k
offset_bounds-pool-k c =
    omega (arith, room_word c.args.w c.args.n c.requires.1, c.well_formed)

pub bounds-pool-k : goal.bounds-pool-k
bounds-pool-k c =
    room_word c.args.w c.args.n c.requires.1

pub returns-then-r-eq0 : goal.returns-then-r-eq0
returns-then-r-eq0 c =
    record {
      put = let a = c.args in
          puts_word a.pool.now a.w a.n a.x a.m (take a.m (unpacked a.x)) c.if-r-eq0.true
          (room_word a.w a.n c.requires.1) c.requires.0
          (front_size a.x a.m c.requires.0) c.requires.2;
    }

pub offset_bounds-pool-k-2 : goal.offset_bounds-pool-k-2
offset_bounds-pool-k-2 c =
    omega (arith, room_word c.args.w c.args.n c.requires.1, c.well_formed)

pub bounds-pool-k-2 : goal.bounds-pool-k-2
bounds-pool-k-2 c =
    room_word c.args.w c.args.n c.requires.1

pub offset_bounds-pool-k-3 : goal.offset_bounds-pool-k-3
offset_bounds-pool-k-3 c =
    omega (arith, room_word c.args.w c.args.n c.requires.1, c.well_formed)

pub bounds-pool-k-3 : goal.bounds-pool-k-3
bounds-pool-k-3 c =
    room_word c.args.w c.args.n c.requires.1

pub offset_bounds-pool-k-4 : goal.offset_bounds-pool-k-4
offset_bounds-pool-k-4 c =
    omega (arith, room_words c.args.w c.args.n c.requires.1 c.if-r-eq0.false, c.well_formed)

pub bounds-pool-k-4 : goal.bounds-pool-k-4
bounds-pool-k-4 c =
    rw length-set (room_words c.args.w c.args.n c.requires.1 c.if-r-eq0.false)

pub returns : goal.returns
returns c =
    record {
      put = let a = c.args in
          let k = a.w + a.n / 8 in
          let r = a.n % 8 in
          puts_part a.pool.now a.w a.n a.x a.m (bit_or c.front.result (a.x / 2 ^ (8 * r))) _ (take a.m (unpacked a.x))
          (room_words a.w a.n c.requires.1 c.if-r-eq0.false) c.requires.0
          (front_size a.x a.m c.requires.0) c.requires.2
          (word_joined c.front.result a.x r (take r (unpacked (get_or a.pool.now k 0))) (omega arith) (omega arith)
          (front_size (get_or a.pool.now k 0) r (omega arith)) c.front.ensures.cut)
          (word_behind a.x r (omega arith));
    }
