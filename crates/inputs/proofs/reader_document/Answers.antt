-- `inputs::reader_document` meets its contract. Assumes nothing.
use Rattle.definitions.specs.Operations.{source}
use Rattle.definitions.specs.Reader.{read_reader}
use Rattle.inputs.proofs.ReaderTexts.{reader_stops, reader_passes, room_before_document}
use Rattle.inputs.proofs.ReaderTexts.{room_for_its_document, its_document_refused, its_document_passes}
use Rattle.reading.proofs.Passed.{passed}
use Rattle.inputs.specs.Inputs.{JudgesBoth, ReaderDocumentHeld}
use Rattle.inputs.proofs.Mapped.{read_in, refused_in}
use Rattle.inputs.proofs.reader_document.Goals as goal

pub first_reader-requires : goal.first_reader-requires
first_reader-requires c = room_before_document c.requires

pub read-requires : goal.read-requires
read-requires c =
    let e = read_in 1 c.first_reader.result c.map_err.ensures.cases c.in_ok-first.was in
    room_for_its_document c.requires _ c.in_ok-first.first.top c.first_reader.auto.pool ((reader_passes c.first_reader.ensures.judged e).low)

pub returns-in_err-first : goal.returns-in_err-first
returns-in_err-first c =
    let a = c.args in
    record {
      judged = passed
          (JudgesBoth a.limits read_reader a.reader.now (source a.format) a.document.now
          (ReaderDocumentHeld a.limits c.first_reader.new.forms a.nodes.now c.first_reader.new.pool))
          c.from_residual.ensures
          (record {
            answer = refused_in 1 c.first_reader.result c.map_err.ensures.cases c.in_err-first.was
                (λ q e. reader_stops c.first_reader.ensures.judged (source a.format) a.document.now e);
          });
    }

pub returns-in_err-second : goal.returns-in_err-second
returns-in_err-second c =
    let a = c.args in
    let e = read_in 1 c.first_reader.result c.map_err.ensures.cases c.in_ok-first.was in
    let f = reader_passes c.first_reader.ensures.judged e in
    record {
      judged = passed
          (JudgesBoth a.limits read_reader a.reader.now (source a.format) a.document.now
          (ReaderDocumentHeld a.limits c.first_reader.new.forms c.read.new.nodes c.read.new.pool))
          c.from_residual-in_err-second.ensures
          (record {
            answer = refused_in 2 c.read.result c.map_err-2.ensures.cases c.in_err-second.was
                (λ q g. its_document_refused f (source a.format) a.document.now c.read.ensures.judged g);
          });
    }

pub returns : goal.returns
returns c =
    let a = c.args in
    let e = read_in 1 c.first_reader.result c.map_err.ensures.cases c.in_ok-first.was in
    let g = read_in 2 c.read.result c.map_err-2.ensures.cases c.in_ok-second.was in
    let f = reader_passes c.first_reader.ensures.judged e in
    record { judged = record { answer = rw c.both.ensures (its_document_passes f (source a.format) a.document.now c.read.ensures.judged g) } }
