-- `text::store::store_front` meets its contract: the first bytes are the last of the word shifted down (`first_last`). Assumes nothing.
use borrow.Author.Rules.{rules}
use Rattle.text.specs.WritesLaws.{writes_as}
use Rattle.text.proofs.Stores.{first_last}
use Rattle.text.proofs.store.store_front.Goals as goal

pub returns : goal.returns
returns c =
    record {
      stored = let a = c.args in
          writes_as (first_last a.x a.n c.requires.0 (search rules)) c.store_last.ensures.stored;
    }
