-- `perform::plain` meets its contract. Assumes nothing.
use native.Mathlib.Nat.{zero-add}
use native.Mathlib.Omega.{arith}
use lib.ListN.{length}
use Rattle.definitions.specs.Operations.{passed, to_write, finish, plain_judged}
use Rattle.definitions.specs.Plain.{plain}
use Rattle.definitions.specs.WorkSlices.{value_words, text_words}
use Rattle.laws.specs.Ends.{finishes_stopped, finishes_passed}
use Rattle.slices.specs.Long.{long_two}
use Rattle.documents.specs.DocumentsLaws.{document_passes, document_refused}
use Rattle.perform.proofs.Walks.{value_held}
use Rattle.perform.proofs.plain.Goals as goal

pub read-requires : goal.read-requires
read-requires c =
    let a = c.args in
    let n = length a.document.now in
    let (h, g) = long_two (value_words a.limits n) (text_words a.limits n) (length a.nodes.now) (length a.pool.now) c.requires.long in
    record { rows = h; texts = rw zero-add g; low = omega arith; small = c.requires.small }

pub deliver-requires : goal.deliver-requires
deliver-requires c =
    let (v, passes, held) = document_passes c.read.ensures.judged c.in-Ok.is in
    record { value = v; holds = value_held held.table }

pub returns-in-Ok : goal.returns-in-Ok
unfolding plain_judged finish
returns-in-Ok c =
    let (v, passes, held) = document_passes c.read.ensures.judged c.in-Ok.is in
    let h = value_held held.table in
    let facts = finishes_passed c.args.output.now (λ v. passed (to_write (plain v) 0)) (passes 1)
    (c.deliver.ensures.answered v h, c.deliver.ensures.kept v h) in record { answered = facts.0; written = facts.1 }

pub returns-in-Err : goal.returns-in-Err
unfolding plain_judged
returns-in-Err c = let facts = finishes_stopped c.args.output.now _ c.refused.ensures.set (document_refused c.read.ensures.judged c.in-Err.is 1) in
    record { answered = facts.0; written = facts.1 }
