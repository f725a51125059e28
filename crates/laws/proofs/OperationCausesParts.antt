-- The parts of operations, each refused with the first of its causes: texts, checking, running and the two ends. Assumes nothing.
use Rattle.std.specs.Prelude.{ℕ, ◌≤◌, ◌<◌, ◌≡◌, refl, Bool, true, false, [], ◌∷◌, ltb, length}
use Rattle.std.proofs.Common.{arith, sym, ap, subst, true≢false, lit<}
use Rattle.definitions.specs.declared.Limits.{Limits}
use Rattle.definitions.specs.declared.Answer.{Answer}
use Rattle.definitions.specs.Bytes.{Bytes}
use Rattle.definitions.specs.Value.{Value}
use Rattle.definitions.specs.Json.{read_json}
use Rattle.definitions.specs.Plain.{plain}
use Rattle.definitions.specs.Shape.{Shape}
use Rattle.definitions.specs.ShapeText.{read_shape, write_shape}
use Rattle.definitions.specs.Reader.{Result, read_reader}
use Rattle.definitions.specs.Checking.{check_reader}
use Rattle.definitions.specs.Running.{Ran, run_reader}
use Rattle.definitions.specs.Operations.{Done, Judged, passed, stopped, refusal, output_short, written, TextOut, to_write}
use Rattle.definitions.specs.Operations.{shape_out, result_out, deliver, finish, say}
use Rattle.laws.specs.Tests.{ltb_lt, ltb_le}
use Rattle.laws.specs.Judging.{shape_over, shape_out_over, shape_out_fits, result_over, result_out_over, result_out_fits}
use Rattle.laws.specs.Judging.{deliver_short, deliver_room}
use Rattle.laws.specs.Numbered.{numbered_shape, numbered_reader, numbered_check_reader}
use Rattle.laws.specs.Causes.{Cause, same_place}
use Rattle.laws.specs.FormCauses.{ShapeCause, ReaderCause}
use Rattle.laws.proofs.JsonAdequate.{json_refused}
use Rattle.laws.proofs.ShapeCauses.{shape_refused}
use Rattle.laws.proofs.ReaderCauses.{reader_refused}
use Rattle.laws.proofs.CauseRefuses.{json_cause_refuses, shape_cause_refuses, reader_cause_refuses}
use Rattle.laws.specs.CheckRules.{Refuses}
use Rattle.laws.specs.CheckRulesHold.{refuses_exactly}
use Rattle.laws.specs.RunRules.{Halts}
use Rattle.laws.specs.RunRulesHold.{halts_exactly}
use Rattle.laws.proofs.Positives.{numbered_json, numbered_run}
use Rattle.laws.specs.OperationCauses.{Refusal, too_large, no_room, Before, earlier_stage, same_stage, RefusedWithTheFirst}
use Rattle.laws.specs.OperationCauses.{by_cause, by_none}
use Rattle.laws.proofs.OperationCausesFirst.{Exact}
use Rattle.laws.proofs.OperationCausesFirst.{Ending}

-- ---- the parts

pub exact_json : (l : Limits) (s : Bytes) → Exact (read_json l s) (Cause l s)
exact_json l s = record { caused = json_refused l s; least = json_cause_refuses l s; numbered = numbered_json l s }

pub exact_shape : (l : Limits) (s : Bytes) → Exact (read_shape l s) (ShapeCause l s)
exact_shape l s = record { caused = shape_refused l s; least = shape_cause_refuses l s; numbered = numbered_shape l s }

pub exact_reader : (l : Limits) (s : Bytes) → Exact (read_reader l s) (ReaderCause l s)
exact_reader l s = record { caused = reader_refused l s; least = reader_cause_refuses l s; numbered = numbered_reader l s }

pub exact_check : (r : Result) (s : Shape) → Exact (check_reader r s) (Refuses (s ∷ []) r)
exact_check r s =
    record {
      caused = λ n p e. (refuses_exactly r s n p).0 e;
      least = λ n p c. (n, p, (refuses_exactly r s n p).1 c, same_place refl (omega arith));
      numbered = numbered_check_reader r s;
    }

pub exact_run : (r : Result) (l : Limits) (v : Value) → Exact (run_reader r l v) (Halts l (v ∷ []) 0 r)
exact_run r l v =
    record {
      caused = λ n p e. (halts_exactly r l v n p).0 e;
      least = λ n p c. (n, p, (halts_exactly r l v n p).1 c, same_place refl (omega arith));
      numbered = numbered_run r l v;
    }

-- ---- the ends

unfoldable pub answer_in : Bytes → Judged TextOut → Answer
answer_in output j = (finish output j).answer

pub finishing : (output : Bytes) → Ending (answer_in output)
unfolding finish answer_in
finishing output = record { stops = λ r. refl }

pub saying : Ending say
unfolding say
saying = record { stops = λ r. refl }

-- what is to be written is too large, or the output is too short for it
pub data EndCause (n : ℕ) (large : Bool) (b output : Bytes) : Refusal → Type 0 where
  over : large ≡ true → EndCause n large b output (too_large n)
  short : length output < length b → EndCause n large b output (no_room (length b))

pub end_late : {n : ℕ} {large : Bool} {b output : Bytes} (k : Refusal) → EndCause n large b output k → 6 < k.stage
end_late k (over e) = lit< tt
end_late k (short e) = lit< tt

pub end_first
    : (n : ℕ) (large : Bool) (b output : Bytes) (steps : ℕ) (j : Judged TextOut) → 0 < n → (large ≡ true → j ≡ stopped (refusal n 0 0))
    → (large ≡ false → j ≡ passed (to_write b steps)) → RefusedWithTheFirst (EndCause n large b output) (answer_in output j)
unfolding finish refusal output_short written answer_in
end_first n true b output steps j h f g =
    subst (RefusedWithTheFirst (EndCause n true b output)) (sym (ap (answer_in output) (f refl)))
    (by_cause (too_large n) (over refl) h λ i c. before i c)
  where
    before : (i : Refusal) → EndCause n true b output i → Before (too_large n) i
    before i (over e) = same_stage refl (same_place refl (omega arith))
    before i (short e) = earlier_stage (lit< tt)
end_first n false b output steps j h f g =
    subst (RefusedWithTheFirst (EndCause n false b output)) (sym (ap (answer_in output) (g refl)))
    (go (ltb (length output) (length b)) refl)
  where
    before : (i : Refusal) → EndCause n false b output i → Before (no_room (length b)) i
    before i (over e) = absurd (true≢false (sym e))
    before i (short e) = same_stage refl (same_place refl (omega arith))

    no_cause : length b ≤ length output → (i : Refusal) → EndCause n false b output i → ⊥
    no_cause k i (over e) = true≢false (sym e)
    no_cause k i (short e) = let z : ⊥ = omega arith in z

    go : (c : Bool) → ltb (length output) (length b) ≡ c
        → RefusedWithTheFirst (EndCause n false b output) (deliver output (to_write b steps)).answer
    go true q =
        subst (RefusedWithTheFirst (EndCause n false b output))
        (sym (ap (λ (d : Done). d.answer) (deliver_short output (to_write b steps) q)))
        (by_cause (no_room (length b)) (short (ltb_lt _ _ q)) (lit< tt) before)
    go false q =
        subst (RefusedWithTheFirst (EndCause n false b output))
        (sym (ap (λ (d : Done). d.answer) (deliver_room output (to_write b steps) q)))
        (by_none refl (no_cause (ltb_le _ _ q)))

abbrev pub ShapeEnd : Limits → Bytes → Shape → Refusal → Type 0
ShapeEnd l output u = EndCause 11 (shape_over l u) (write_shape u) output

pub shape_first : (l : Limits) (output : Bytes) (u : Shape) → RefusedWithTheFirst (ShapeEnd l output u) (answer_in output (shape_out l u))
shape_first l output u =
    end_first 11 (shape_over l u) (write_shape u) output 0 (shape_out l u) (lit< tt) (shape_out_over l u) (shape_out_fits l u)

abbrev pub ResultEnd : Limits → Bytes → Value → Refusal → Type 0
ResultEnd l output w = EndCause 14 (result_over l w) (plain w) output

pub result_first
    : (l : Limits) (output : Bytes) (x : Ran Value) → RefusedWithTheFirst (ResultEnd l output x.result) (answer_in output (result_out l x))
result_first l output x =
    end_first 14 (result_over l x.result) (plain x.result) output x.steps (result_out l x) (lit< tt) (result_out_over l x)
    (result_out_fits l x)
