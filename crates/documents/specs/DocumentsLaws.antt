-- What a document came to, by the case of the answer. Assumes nothing.
use Rattle.std.specs.Prelude.{ℕ, ◌≡◌, List, Result, Ok, Err}
use Rattle.std.proofs.Common.{subst}
use Rattle.definitions.specs.declared.Limits.{Limits}
use Rattle.definitions.specs.Bytes.{Bytes}
use Rattle.definitions.specs.Value.{Value}
use Rattle.definitions.specs.Operations.{Source, passed, stopped, refusal, judge_text}
use Rattle.reading.specs.declared.Extent.{Extent}
use Rattle.reading.specs.declared.Refusal.{Refusal}
use Rattle.reading.specs.Refusals.{number_of}
use Rattle.documents.specs.Documents.{DocumentHeld, DocumentOutcome, JudgesDocument}

module _
    {source : Source} {l : Limits} {document : Bytes} {p nodes' p' : List ℕ} {top : ℕ} {r : Result Extent Refusal}
    (j : JudgesDocument source l document p nodes' p' top r)
  where
    pub document_passes
        : {e : Extent} → r ≡ Ok e
        → (v : Value) × ((k : ℕ) → judge_text k l source document ≡ passed v) × DocumentHeld v p nodes' p' top e.words e.top
    document_passes e = subst (DocumentOutcome source l document p nodes' p' top) e j.answer

    pub document_refused
        : {q : Refusal} → r ≡ Err q → (k : ℕ) → judge_text k l source document ≡ stopped (refusal (number_of q.cause) k q.place)
    document_refused e = subst (DocumentOutcome source l document p nodes' p' top) e j.answer
