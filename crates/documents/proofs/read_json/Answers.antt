-- `documents::read_json` meets its contract. Assumes nothing.
use borrow.Author.Rules.{rules}
use Rattle.documents.proofs.Reading.{few_room, read_as}
use Rattle.documents.proofs.read_json.Goals as goal

pub read_document-requires : goal.read_document-requires
read_document-requires c =
    few_room c.fewer-few.ensures.made (search rules) c.requires.short c.requires.document_room

pub returns : goal.returns
returns c =
    record {
      read = let a = c.args in
          read_as a.limits c.fewer-few.result a.document.now a.pool.now _ _ a.top _ c.read_document.result
          c.fewer-few.ensures.made (search rules) c.read_document.ensures.read.answer;
    }
