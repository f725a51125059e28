-- `number::places::store_eight` meets its contract: eight bytes, one before the other (`places_next`). Assumes nothing.
use Prim.Native.Nat.{◌/◌, ◌^◌}
use native.Mathlib.Omega.{arith}
use lib.Bits.{mask_lt}
use lib.ListN.{length-set}
use Rattle.number.proofs.Writing.{places_start, places_on, places_next, places_last}
use Rattle.number.proofs.places.store_eight.Goals as goal

pub shape_of-out : goal.shape_of-out
shape_of-out c = simp length-set

pub returns : goal.returns
returns c n l =
    let a = c.args in
    let fits = c.requires in
    let p7 = places_on {left = 7} fits (places_start a.out.now a.at 8 a.x) in
    let p6 = places_next fits {left = 6} 1 p7 in
    let p5 = places_next fits {left = 5} 2 p6 in
    let p4 = places_next fits {left = 4} 3 p5 in
    let p3 = places_next fits {left = 3} 4 p4 in
    let p2 = places_next fits {left = 2} 5 p3 in
    let p1 = places_next fits {left = 1} 6 p2 in
    places_last fits 7 n p1 l

pub overflow_cast-out : goal.overflow_cast-out
overflow_cast-out c =
    omega (arith, mask_lt c.args.x 8)

pub overflow_cast-out-2 : goal.overflow_cast-out-2
overflow_cast-out-2 c =
    omega (arith, mask_lt (c.args.x / 2 ^ 8) 8)

pub bounds-out-at-2 : goal.bounds-out-at-2
bounds-out-at-2 c =
    simp length-set (omega arith)

pub overflow_cast-out-3 : goal.overflow_cast-out-3
overflow_cast-out-3 c =
    omega (arith, mask_lt (c.args.x / 2 ^ 16) 8)

pub bounds-out-at-3 : goal.bounds-out-at-3
bounds-out-at-3 c =
    simp length-set (omega arith)

pub overflow_cast-out-4 : goal.overflow_cast-out-4
overflow_cast-out-4 c =
    omega (arith, mask_lt (c.args.x / 2 ^ 24) 8)

pub bounds-out-at-4 : goal.bounds-out-at-4
bounds-out-at-4 c =
    simp length-set (omega arith)

pub overflow_cast-out-5 : goal.overflow_cast-out-5
overflow_cast-out-5 c =
    omega (arith, mask_lt (c.args.x / 2 ^ 32) 8)

pub bounds-out-at-5 : goal.bounds-out-at-5
bounds-out-at-5 c =
    simp length-set (omega arith)

pub overflow_cast-out-6 : goal.overflow_cast-out-6
overflow_cast-out-6 c =
    omega (arith, mask_lt (c.args.x / 2 ^ 40) 8)

pub bounds-out-at-6 : goal.bounds-out-at-6
bounds-out-at-6 c =
    simp length-set (omega arith)

pub overflow_cast-out-7 : goal.overflow_cast-out-7
overflow_cast-out-7 c =
    omega (arith, mask_lt (c.args.x / 2 ^ 48) 8)

pub bounds-out-at-7 : goal.bounds-out-at-7
bounds-out-at-7 c =
    simp length-set (omega arith)

pub overflow_cast-out-8 : goal.overflow_cast-out-8
overflow_cast-out-8 c =
    omega (arith, mask_lt (c.args.x / 2 ^ 56) 8)

pub bounds-out-at-8 : goal.bounds-out-at-8
bounds-out-at-8 c =
    simp length-set (omega arith)
