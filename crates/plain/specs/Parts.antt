-- The elements of a list and the members of a record as one kind of list, so that one loop writes both. Assumes nothing.
use Rattle.std.specs.Prelude.{ℕ, ◌+◌, ◌≤◌, ◌<◌, ◌≡◌, Bool, true, false, List, [], ◌++◌, length, get_or, drop}
use Rattle.std.proofs.Math.Option.{Option, none, some}
use Rattle.definitions.specs.Bytes.{Bytes, bytes}
use Rattle.definitions.specs.Value.{Value}
use Rattle.definitions.specs.Plain.{plain, plain_text}
use Rattle.text.specs.Writes.{Writes}
use Rattle.nodes.specs.Nodes.{Refers, Rows}
use Rattle.plain.specs.Table.{BoundedNumbers, Used}

-- ---- parts

-- values in order, a member's under its name
pub data Parts : Type 0 where
  no_parts : Parts
  part : Option Bytes → Value → Parts → Parts

-- a comma behind a first part
unfoldable pub comma : Bool → Bytes
comma true = bytes ","
comma false = []

-- a member's name and its colon
unfoldable pub label : Option Bytes → Bytes
label none = []
label (some n) = plain_text n ++ bytes ":"

-- parts as plain JSON; whether others stand before them
unfoldable pub plain_parts : Bool → Parts → Bytes
plain_parts later no_parts = []
plain_parts later (part n v ps) = comma later ++ label n ++ plain v ++ plain_parts true ps

-- ---- their rows

-- the name word k is that of a value with this name, where named says whether it has one
pub data Labels (p : List ℕ) : Bool → Option Bytes → ℕ → Type 0 where
  unlabeled : {k : ℕ} → Labels p false none k
  labeled : {n : Bytes} {k : ℕ} → Refers p n k → Labels p true (some n) k

pub data PartRows (p : List ℕ) (named : Bool) : Parts → List ℕ → Type 0 where
  no_part_rows : PartRows p named no_parts []
  part_rows
      : {n : Option Bytes} {k : ℕ} {v : Value} {ps : Parts} {rs qs : List ℕ} → Labels p named n k → Rows p k v rs
      → BoundedNumbers v → PartRows p named ps qs → PartRows p named (part n v ps) (rs ++ qs)

-- the rows of the parts stand in the table from a row up to an end
pub record HoldsParts (nodes pool : List ℕ) (named : Bool) (row end : ℕ) (ps : Parts) : Type 0 where
  pub used : List ℕ
  pub rows : List ℕ
  pub rest : List ℕ
  pub encoded : PartRows used named ps rows
  pub placed : drop row nodes ≡ rows ++ rest
  pub ends : row + length rows ≡ end
  pub pooled : Used pool used

-- the name of the value at a row, if named
pub record HoldsLabel (nodes pool : List ℕ) (named : Bool) (row : ℕ) (n : Option Bytes) : Type 0 where
  pub used : List ℕ
  pub name : ℕ
  pub labels : Labels used named n name
  pub within : row + 2 < length nodes
  pub placed : get_or nodes (row + 2) 0 ≡ name
  pub pooled : Used pool used

-- ---- what their writers ask and answer

pub record WritableParts (nodes pool : List ℕ) (named : Bool) (row end : ℕ) (out : Bytes) (at : ℕ) : Type 0 where
  pub parts : Parts
  pub holds : HoldsParts nodes pool named row end parts
  pub room : at + length (plain_parts false parts) ≤ length out

abbrev pub WritesParts : (nodes pool : List ℕ) (named : Bool) (row end : ℕ) (out out' : Bytes) (at r : ℕ) → Type 0
WritesParts nodes pool named row end out out' at r =
    (ps : Parts) → HoldsParts nodes pool named row end ps → Writes out out' at (plain_parts false ps) r

pub record WritableLabel (nodes pool : List ℕ) (later named : Bool) (row : ℕ) (out : Bytes) (at : ℕ) : Type 0 where
  pub name : Option Bytes
  pub holds : HoldsLabel nodes pool named row name
  pub room : at + length (comma later ++ label name) ≤ length out

abbrev pub WritesLabel : (nodes pool : List ℕ) (later named : Bool) (row : ℕ) (out out' : Bytes) (at r : ℕ) → Type 0
WritesLabel nodes pool later named row out out' at r =
    (n : Option Bytes) → HoldsLabel nodes pool named row n → Writes out out' at (comma later ++ label n) r

-- ---- a text at a reference

pub record HoldsText (pool : List ℕ) (k : ℕ) (t : Bytes) : Type 0 where
  pub used : List ℕ
  pub refers : Refers used t k
  pub pooled : Used pool used

pub record WritableText (pool : List ℕ) (k : ℕ) (out : Bytes) (at : ℕ) : Type 0 where
  pub text : Bytes
  pub holds : HoldsText pool k text
  pub room : at + length (plain_text text) ≤ length out

abbrev pub WritesText : (pool : List ℕ) (k : ℕ) (out out' : Bytes) (at r : ℕ) → Type 0
WritesText pool k out out' at r = (t : Bytes) → HoldsText pool k t → Writes out out' at (plain_text t) r
