-- `json_reader::space::peek` meets its contract. Assumes nothing.
use mathlib.Core.Path.{sym}
use native.Mathlib.Omega.{arith}
use lib.ListN.{get_or-eq_default}
use Rattle.json_reader.proofs.White.{get_d_any}
use Rattle.json_reader.proofs.space.peek.Goals as goal

pub overflow_cast-result : goal.overflow_cast-result
overflow_cast-result c = omega (arith, c.type_inv.doc c.args.i)

pub returns-then-i-doc : goal.returns-then-i-doc
returns-then-i-doc c = record { read = get_d_any c.args.doc.now c.args.i 0 256 c.if-i-doc.true }

pub returns-else-i-doc : goal.returns-else-i-doc
returns-else-i-doc c = record { read = sym (get_or-eq_default c.args.doc.now 256 c.if-i-doc.false) }
