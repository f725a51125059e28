-- What an operation comes to behind its texts, where its reader was run. Assumes nothing.
use Rattle.std.specs.Prelude.{ℕ, ◌≡◌, Bool, true, false, List}
use Rattle.std.proofs.Common.{ap, ◌∙◌}
use Rattle.definitions.specs.declared.Limits.{Limits}
use Rattle.definitions.specs.Outcome.{Outcome, refused}
use Rattle.definitions.specs.Value.{Value}
use Rattle.definitions.specs.Plain.{plain}
use Rattle.definitions.specs.Running.{Ran, gives}
use Rattle.definitions.specs.Operations.{Judged, passed, stopped, TextOut, refusal, to_write, in_text, result_out, ◌>>=◌}
use Rattle.running.specs.Run.{RanTo, RanOver}

-- what is judged of a run: 12 and 13, then 14
abbrev pub run_out : Limits → Outcome ℕ (Ran Value) → Judged TextOut
run_out l o = in_text 1 o >>= λ x. result_out l x

pub out_refused : (l : Limits) {o : Outcome ℕ (Ran Value)} {number place : ℕ} → o ≡ refused number place → run_out l o ≡ stopped (refusal number 1 place)
unfolding in_text ◌>>=◌
out_refused l e = ap (run_out l) e

pub out_over : (l : Limits) {o : Outcome ℕ (Ran Value)} → RanOver o l → run_out l o ≡ stopped (refusal 14 0 0)
unfolding in_text ◌>>=◌ result_out gives
out_over l r =
    ap (run_out l) r.ran
    ∙ ap (λ (b : Bool). elim b [ true ↦ stopped (refusal 14 0 0) | false ↦ passed (to_write (plain r.value) r.steps) ]) r.too_much

pub out_ran
    : (l : Limits) {o : Outcome ℕ (Ran Value)} {results pool : List ℕ} {steps : ℕ} (r : RanTo o l results pool steps)
    → run_out l o ≡ passed (to_write (plain r.value) steps)
unfolding in_text ◌>>=◌ result_out gives
out_ran l {steps = steps} r =
    ap (run_out l) r.ran
    ∙ ap (λ (b : Bool). elim b [ true ↦ stopped (refusal 14 0 0) | false ↦ passed (to_write (plain r.value) steps) ]) r.allowed
