-- `text::eight::plain_bits` meets its contract, byte by byte (`plains_told`). Assumes nothing.
use Rattle.text.proofs.Odd.{above_fits, apart_fits, plains_told}
use native.Mathlib.Omega.{arith}
use Rattle.text.proofs.eight.plain_bits.Goals as goal

pub overflow_add-above : goal.overflow_add-above
overflow_add-above c = record { fits = above_fits c.args.x (omega arith) }

pub overflow_add-quotes : goal.overflow_add-quotes
overflow_add-quotes c = record { fits = apart_fits c.args.x (omega arith) 0x22 (omega arith) }

pub overflow_add-backslashes : goal.overflow_add-backslashes
overflow_add-backslashes c = record { fits = apart_fits c.args.x (omega arith) 0x5C (omega arith) }

pub returns : goal.returns
returns c = record { told = plains_told c.args.x (omega arith) }
