-- `json_reader::name::name_place` meets its contract. Assumes nothing.
use native.Mathlib.Omega.{arith}
use Rattle.json_reader.proofs.Seen.{first_inside, place_none, place_some}
use Rattle.json_reader.proofs.name.name_place.Goals as goal

pub returns-then-n-eq0 : goal.returns-then-n-eq0
returns-then-n-eq0 c = record { placed = place_none c.args.pool.now c.args.w c.args.n c.requires.0 c.if-n-eq0.true }

pub offset_bounds-pool-w : goal.offset_bounds-pool-w
offset_bounds-pool-w c =
    let inside = first_inside c.args.pool.now c.args.w c.args.n c.requires.0 (omega arith) in omega arith

pub bounds-pool-w : goal.bounds-pool-w
bounds-pool-w c = first_inside c.args.pool.now c.args.w c.args.n c.requires.0 (omega arith)

pub overflow_add-result : goal.overflow_add-result
overflow_add-result c = omega (arith, c.requires.1, c.type_inv.pool c.args.w)

pub returns : goal.returns
returns c =
    record {
      placed = place_some c.args.pool.now c.args.w c.args.n c.requires.0 (omega arith) (omega (arith, c.type_inv.pool c.args.w));
    }
