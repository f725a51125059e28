-- What `read_document` answers: what the definitions come to, with the value in a node table. Assumes nothing.
use Rattle.std.specs.Prelude.{ℕ, ◌+◌, ◌*◌, ◌≤◌, ◌<◌, ◌≡◌, List, length, take, Result, Ok, Err}
use Rattle.definitions.specs.declared.Limits.{Limits}
use Rattle.definitions.specs.Bytes.{Bytes}
use Rattle.definitions.specs.Outcome.{ok}
use Rattle.definitions.specs.Value.{Value, size}
use Rattle.definitions.specs.Json.{read_json}
use Rattle.nodes.specs.Nodes.{Rows}
use Rattle.reading.specs.declared.Extent.{Extent}
use Rattle.reading.specs.declared.Refusal.{Refusal}
use Rattle.reading.specs.Refusals.{refused_as}

-- the tables have room for a document of so many values, and their words for what is said of it; of the pool, what is behind
-- its first `top` words
pub record Tables (doc : Bytes) (nodes pool : List ℕ) (top values : ℕ) : Type 0 where
  -- three words a value
  pub rows : 3 * values ≤ length nodes
  -- the texts: a word border may cost seven bytes a text, and quotes, colons and commas pay for the names. Of the 9, 8 are
  -- paid by the value that begins, or by the record around a name, and 1 by the opening quote
  pub texts : length doc + 8 * values + 8 * top ≤ 8 * length pool + 9
  pub used : top ≤ length pool
  pub low : top ≤ 16384
  pub short : length doc ≤ 65536
  pub few : values ≤ 32768

-- the document is a value, which the first words of the two tables hold; the first `top` words of the pool are as before
pub record DocumentHeld (l : Limits) (doc : Bytes) (pool nodes' pool' : List ℕ) (top words top' : ℕ) : Type 0 where
  pub value : Value
  pub read : read_json l doc ≡ ok value
  pub held : Rows (take top' pool') 0 value (take words nodes')
  pub counted : words ≡ 3 * size value
  pub within : top' ≤ length pool'
  -- a reference has 16 bits for a text's first word
  pub small : top' < 65536
  pub grows : top ≤ top'
  pub front : take top pool' ≡ take top pool

abbrev pub DocumentAnswer : Limits → Bytes → (pool nodes' pool' : List ℕ) (top : ℕ) → Result Extent Refusal → Type 0
DocumentAnswer l doc pool nodes' pool' top (Ok e) = DocumentHeld l doc pool nodes' pool' top e.words e.top
DocumentAnswer l doc pool nodes' pool' top (Err r) = read_json l doc ≡ refused_as r

-- the answer r, and the tables that were nodes and pool
pub record ReadsDocument (l : Limits) (doc : Bytes) (nodes pool nodes' pool' : List ℕ) (top : ℕ) (r : Result Extent Refusal) : Type 0 where
  pub answer : DocumentAnswer l doc pool nodes' pool' top r
  pub nodes_kept : length nodes' ≡ length nodes
  pub pool_kept : length pool' ≡ length pool
