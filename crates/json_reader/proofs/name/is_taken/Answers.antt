-- `json_reader::name::is_taken` meets its contract: a name whose bit is not set is none of the members' (`not_seen`). Assumes nothing.
use Prim.Native.Nat.{ℕ, ◌/◌, ◌%◌, ◌^◌}
use mathlib.Core.Path.{◌≡◌, subst}
use native.Mathlib.Omega.{arith}
use Rattle.pool.specs.Pool.{text_in}
use Rattle.json_reader.specs.JsonParts.{name_place}
use Rattle.json_reader.proofs.Seen.{not_seen}
use Rattle.json_reader.proofs.name.is_taken.Goals as goal

pub overflow_shr-seen : goal.overflow_shr-seen
unfolding name_place
overflow_shr-seen c = omega (arith, c.requires.bit)

pub returns-then-seen-place-eq0 : goal.returns-then-seen-place-eq0
returns-then-seen-place-eq0 c =
    record {
      found = λ ms r covered.
          let name = text_in c.args.pool.now c.args.c.top c.args.n in
          not_seen name ms (subst (λ (k : ℕ). c.args.seen / 2 ^ k % 2 ≡ 0) c.requires.bit c.if-seen-place-eq0.true) covered;
    }

pub returns : goal.returns
returns c = record { found = λ ms r covered. c.has_name.ensures.found ms r }
