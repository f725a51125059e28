-- What reading a document of any format asks and answers. Assumes nothing.
use Rattle.std.specs.Prelude.{ℕ, ◌+◌, ◌*◌, ◌≤◌, ◌<◌, ◌≡◌, true, List, length, take, Result, Ok, Err}
use Rattle.definitions.specs.declared.Limits.{Limits}
use Rattle.definitions.specs.Bytes.{Bytes}
use Rattle.definitions.specs.Outcome.{ok}
use Rattle.definitions.specs.Value.{Value, size}
use Rattle.definitions.specs.Operations.{Source, passed, stopped, refusal, judge_text}
use Rattle.definitions.specs.WorkSlices.{value_words, text_words}
use Rattle.laws.specs.Distinct.{distinct}
use Rattle.laws.specs.Good.{GoodValue}
use Rattle.nodes.specs.Nodes.{Rows}
use Rattle.reading.specs.declared.Extent.{Extent}
use Rattle.reading.specs.declared.Refusal.{Refusal}
use Rattle.reading.specs.Refusals.{number_of, refused_as}
use Rattle.slices.specs.Small.{Small}

-- the tables have room for this document, if it is short enough to be read, behind the first `top` words of the pool
pub record DocumentRoom (document : Bytes) (nodes pool : List ℕ) (top : ℕ) (l : Limits) : Type 0 where
  pub rows : value_words l (length document) ≤ length nodes
  pub texts : top + text_words l (length document) ≤ length pool
  pub low : top ≤ 16384
  pub small : Small l

-- the first words of a node table hold a value, its texts in the first `top` words of the pool
pub record ValueTable (nodes pool : List ℕ) (words top : ℕ) (v : Value) : Type 0 where
  pub rows : Rows (take top pool) 0 v (take words nodes)
  pub counted : words ≡ 3 * size v
  pub within : top ≤ length pool
  pub small : top < 65536
  pub good : GoodValue v
  pub names_once : distinct v ≡ true

-- the document is this value, which the tables hold; what the pool p had before `top` is kept in p'
pub record DocumentHeld (v : Value) (p nodes' p' : List ℕ) (top words top' : ℕ) : Type 0 where
  pub table : ValueTable nodes' p' words top' v
  pub grows : top ≤ top'
  pub front : take top p' ≡ take top p

-- a document that was read, whatever its length
abbrev pub ReadsAs : Source → Limits → Bytes → (p nodes' p' : List ℕ) (top : ℕ) → Result Extent Refusal → Type 0
ReadsAs source l document p nodes' p' top (Ok e) =
    (v : Value) × (source l document ≡ ok v) × DocumentHeld v p nodes' p' top e.words e.top
ReadsAs source l document p nodes' p' top (Err r) = source l document ≡ refused_as r

-- and judged, whichever of an operation's texts it is
abbrev pub DocumentOutcome : Source → Limits → Bytes → (p nodes' p' : List ℕ) (top : ℕ) → Result Extent Refusal → Type 0
DocumentOutcome source l document p nodes' p' top (Ok e) =
    (v : Value) × ((k : ℕ) → judge_text k l source document ≡ passed v) × DocumentHeld v p nodes' p' top e.words e.top
DocumentOutcome source l document p nodes' p' top (Err r) =
    (k : ℕ) → judge_text k l source document ≡ stopped (refusal (number_of r.cause) k r.place)

pub record JudgesDocument
    (source : Source) (l : Limits) (document : Bytes) (p nodes' p' : List ℕ) (top : ℕ) (r : Result Extent Refusal)
    : Type 0 where
  pub answer : DocumentOutcome source l document p nodes' p' top r
