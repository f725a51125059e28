-- `text::unicode::peek` meets its contract: within the document the default does not matter (`get_or_within`). Assumes nothing.
use mathlib.Core.Path.{sym}
use lib.ListN.{get_or-eq_default}
use Rattle.text.proofs.Places.{get_or_within}
use native.Mathlib.Omega.{arith}
use mathlib.Core.Path.{sym}
use lib.ListN.{get_or-eq_default}
use Rattle.text.proofs.Places.{get_or_within}
use native.Mathlib.Omega.{arith}
use Rattle.text.proofs.unicode.peek.Goals as goal

pub overflow_cast-result : goal.overflow_cast-result
overflow_cast-result c = omega (arith, c.shared_slice_known-1.given c.args.i)

pub returns-then-i-doc : goal.returns-then-i-doc
returns-then-i-doc c = record { read = let a = c.args in get_or_within a.doc.now a.i 0 256 c.if-i-doc.true }

pub returns-else-i-doc : goal.returns-else-i-doc
returns-else-i-doc c = record { read = sym (get_or-eq_default c.args.doc.now 256 c.if-i-doc.false) }
