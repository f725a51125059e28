-- check and run as operations and C calls, as they were before request Q-2: by the rules of OldField. Assumes nothing.
use Rattle.std.specs.Prelude.{ℕ, ◌≡◌, ◌⊎◌, List}
use Rattle.definitions.specs.declared.Limits.{Limits}
use Rattle.definitions.specs.Bytes.{Bytes}
use Rattle.definitions.specs.Outcome.{ok}
use Rattle.definitions.specs.Value.{Value}
use Rattle.definitions.specs.Shape.{Shape}
use Rattle.definitions.specs.ShapeText.{read_shape}
use Rattle.definitions.specs.Reader.{Result, read_reader}
use Rattle.definitions.specs.Operations.{Done, Source, Judged, ◌>>=◌, refusal, judge_both, in_text, prelude, TextOut, shape_out, result_out, finish}
use Rattle.definitions.specs.Calls.{Called, call, buffer_published, buffer_lent}
use Rattle.laws.specs.OldField.{old_check_reader, NullNotWanted, old_run_reader, StuckOnNull}

unfoldable pub old_check_judged : Limits → (reader shape : Bytes) → Judged TextOut
old_check_judged l reader shape =
    judge_both l read_reader reader read_shape shape >>= λ (r, s). in_text 1 (old_check_reader r s) >>= λ t. shape_out l t

unfoldable pub old_run_judged : Source → Limits → (reader document : Bytes) → Judged TextOut
old_run_judged source l reader document =
    judge_both l read_reader reader source document >>= λ (r, v). in_text 1 (old_run_reader r l v) >>= λ x. result_out l x

unfoldable pub old_check_operation : (published lent : List ℕ) → Limits → (reader shape output : Bytes) → Done
old_check_operation published lent l reader shape output = finish output (prelude l published lent (old_check_judged l reader shape))

unfoldable pub old_run_operation : Source → (published lent : List ℕ) → Limits → (reader document output : Bytes) → Done
old_run_operation source published lent l reader document output =
    finish output (prelude l published lent (old_run_judged source l reader document))

unfoldable pub old_check_call : Limits → (reader shape output buffer : Bytes) → Called
old_check_call l reader shape output buffer = call buffer (old_check_operation buffer_published (buffer_lent buffer) l reader shape output)

unfoldable pub old_run_call : Source → Limits → (reader document output buffer : Bytes) → Called
old_run_call source l reader document output buffer =
    call buffer (old_run_operation source buffer_published (buffer_lent buffer) l reader document output)

-- ---- what moves

-- these texts are a reader and a shape that has null at a `field`, there
abbrev pub MeetsNullChecked : Limits → (reader shape : Bytes) → (place : ℕ) → Type 0
MeetsNullChecked l reader shape p =
    (r : Result) × (s : Shape) × (read_reader l reader ≡ ok r) × (read_shape l shape ≡ ok s) × NullNotWanted r s p

-- these texts are a reader and a document that has null at a `field`, there
abbrev pub MeetsNull : Source → Limits → (reader document : Bytes) → (place : ℕ) → Type 0
MeetsNull source l reader document p =
    (r : Result) × (v : Value) × (read_reader l reader ≡ ok r) × (source l document ≡ ok v) × StuckOnNull r l v p

-- what an operation comes to is what it came to, unless null was met, and the first text refused with this number there
abbrev pub UnlessMet : (number : ℕ) → (ℕ → Type 0) → (output : Bytes) → (before now : Done) → Type 0
UnlessMet n Met output before now =
    (now ≡ before) ⊎ ((p : ℕ) × Met p × (before ≡ record { answer = refusal n 1 p; output = output }))

-- the same of a C call
abbrev pub UnlessMetCalled : (number : ℕ) → (ℕ → Type 0) → (output buffer : Bytes) → (before now : Called) → Type 0
UnlessMetCalled n Met output buffer before now =
    (now ≡ before) ⊎ ((p : ℕ) × Met p × (before ≡ call buffer (record { answer = refusal n 1 p; output = output })))
