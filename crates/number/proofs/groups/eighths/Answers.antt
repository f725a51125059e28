-- `number::groups::eighths` meets its contract. Assumes nothing.
use native.Mathlib.Omega.{arith}
use Rattle.number.proofs.EightBytes.{eighths_are}
use Rattle.number.proofs.groups.eighths.Goals as goal

pub overflow_mul-high : goal.overflow_mul-high
overflow_mul-high c = let it = c.requires in omega (arith, it.1, it.2.parts)

pub overflow_mul-result : goal.overflow_mul-result
overflow_mul-result c =
    let it = c.requires in
    record { fits = (eighths_are it.0 c.args.word _ it.1 it.2 c.power.ensures).fits }

pub overflow_sub-result : goal.overflow_sub-result
overflow_sub-result c = let it = c.requires in (eighths_are it.0 c.args.word _ it.1 it.2 c.power.ensures).least

pub overflow_add-result : goal.overflow_add-result
overflow_add-result c =
    let it = c.requires in
    omega (arith, (eighths_are it.0 c.args.word _ it.1 it.2 c.power.ensures).sum)

pub overflow_add-result-2 : goal.overflow_add-result-2
overflow_add-result-2 c =
    let it = c.requires in
    record { fits = (eighths_are it.0 c.args.word _ it.1 it.2 c.power.ensures).sum }

pub returns : goal.returns
returns c x h b = (eighths_are x c.args.word _ h b c.power.ensures).bytes
