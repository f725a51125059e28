-- `pool::put_byte` meets its contract: no bit of the new word is shifted out, and the pool with it is as `Put` says (`stored`). Assumes nothing.
use Prim.Native.Nat.{◌/◌}
use native.Mathlib.Omega.{arith}
use lib.ListN.{get_or}
use lib.Pow.{shr_le}
use Rattle.pool.proofs.Store.{stored}
use Rattle.pool.proofs.put_byte.Goals as goal

pub overflow_mul-pool : goal.overflow_mul-pool
overflow_mul-pool c =
    let a = c.args in
    omega (arith, shr_le (get_or a.pool.now (a.k / 8) 0) c.shift-s.result)

pub overflow_add-pool : goal.overflow_add-pool
overflow_add-pool c =
    let a = c.args in
    omega (arith, shr_le (get_or a.pool.now (a.k / 8) 0) c.shift-s.result)

pub returns : goal.returns
returns c =
    record {
      put = let a = c.args in
          stored a.pool.now a.k a.b c.requires c.shift-s.result c.shift-s.ensures.shifted
          (omega arith) (omega arith);
    }
