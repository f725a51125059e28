-- What running a reader asks and answers, ready for the end of an operation. Assumes nothing.
use Rattle.std.specs.Prelude.{ℕ, ◌*◌, ◌≤◌, ◌≡◌, true, false, List, length, Ok, Err}
use Rattle.std.specs.Prelude as std
use Rattle.definitions.specs.declared.Limits.{Limits}
use Rattle.definitions.specs.Limits.{over}
use Rattle.definitions.specs.Outcome.{Outcome}
use Rattle.definitions.specs.Value.{Value, size, nesting}
use Rattle.definitions.specs.Reader.{Result}
use Rattle.definitions.specs.Running.{Ran, gives, run_reader}
use Rattle.laws.specs.FormGrammar.{result_levels}
use Rattle.laws.specs.Good.{GoodReader}
use Rattle.nodes.specs.Standing.{ValueStands}
use Rattle.plain.specs.Table.{BoundedNumbers, Used, Holds}
use Rattle.forms.specs.Forms.{FormStands}
use Rattle.reading.specs.Refusals.{refused_as}
use Rattle.running.specs.declared.Halt.{Halt}
use Rattle.running.specs.declared.Halt.TheVariants as halt

-- the first rows of the tables are those of a reader and of a document; p is the used part of the pool
pub record ReadsBoth (forms nodes pool : List ℕ) (l : Limits) (p : List ℕ) (r : Result) (v : Value) : Type 0 where
  pub pooled : Used pool p
  pub reader_name : ℕ
  pub reader : FormStands forms p 0 1 reader_name r
  pub good : GoodReader r
  pub levels : result_levels r ≤ l.nesting
  pub document_name : ℕ
  pub document : ValueStands nodes p 0 document_name v
  pub bounded : BoundedNumbers v

pub record Runnable (forms nodes pool bindings results : List ℕ) (l : Limits) : Type 0 where
  pub used : List ℕ
  pub form : Result
  pub value : Value
  pub held : ReadsBoth forms nodes pool l used form value
  -- the document is bound, and each form with results inside binds one value at most
  pub bound : l.nesting ≤ length bindings
  -- a result of as many values as 14 allows has room
  pub room : 3 * l.values ≤ length results
  pub small_nodes : length nodes ≤ 65536
  pub small_results : length results ≤ 65536
  pub few_steps : l.steps ≤ 65536

-- a value that 14 is not for stands at the first row
pub record RanTo (o : Outcome ℕ (Ran Value)) (l : Limits) (results pool : List ℕ) (steps : ℕ) : Type 0 where
  pub value : Value
  pub ran : o ≡ gives value steps
  pub allowed : over l (size value) (nesting value) ≡ false
  pub holds : Holds results pool 0 value

-- 14 is for the value
pub record RanOver (o : Outcome ℕ (Ran Value)) (l : Limits) : Type 0 where
  pub value : Value
  pub steps : ℕ
  pub ran : o ≡ gives value steps
  pub too_much : over l (size value) (nesting value) ≡ true

abbrev pub ComesTo : Outcome ℕ (Ran Value) → Limits → (results pool : List ℕ) → std.Result ℕ Halt → Type 0
ComesTo o l results pool (Ok steps) = RanTo o l results pool steps
ComesTo o l results pool (Err halt.Over) = RanOver o l
ComesTo o l results pool (Err (halt.Refused why)) = o ≡ refused_as why

pub record RunsReader (forms nodes pool results : List ℕ) (l : Limits) (r : std.Result ℕ Halt) : Type 0 where
  pub told
      : (p : List ℕ) (form : Result) (v : Value) → ReadsBoth forms nodes pool l p form v → ComesTo (run_reader form l v) l results pool r
