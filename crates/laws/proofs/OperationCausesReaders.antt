-- Check and run: each is refused with the first of its causes, or succeeds where none stands. Assumes nothing.
use Rattle.std.specs.Prelude.{ℕ, ◌≤◌, ◌<◌, ◌≡◌, List, [], ◌∷◌}
use Rattle.std.proofs.Common.{arith, subst, lit≤}
use Rattle.std.proofs.Math.Path.{refl}
use Rattle.definitions.specs.declared.Limits.{Limits}
use Rattle.definitions.specs.Bytes.{Bytes}
use Rattle.definitions.specs.Outcome.{Outcome, ok, refused}
use Rattle.definitions.specs.Value.{Value}
use Rattle.definitions.specs.Json.{read_json}
use Rattle.definitions.specs.Shape.{Shape}
use Rattle.definitions.specs.ShapeText.{read_shape}
use Rattle.definitions.specs.Reader.{Result, read_reader}
use Rattle.definitions.specs.Checking.{check_reader}
use Rattle.definitions.specs.Running.{Ran, run_reader}
use Rattle.definitions.specs.Operations.{◌>>=◌, refusal, in_text}
use Rattle.definitions.specs.Operations.{shape_out, result_out, finish}
use Rattle.definitions.specs.Operations.{check_judged, run_judged}
use Rattle.definitions.specs.Operations.{check_operation, run_operation}
use Rattle.laws.specs.Causes.{Cause}
use Rattle.laws.specs.FormCauses.{ShapeCause, ReaderCause}
use Rattle.laws.specs.CheckRules.{Checks, Refuses}
use Rattle.laws.specs.CheckRulesHold.{checks_exactly, refuses_exactly}
use Rattle.laws.specs.RunRules.{Runs, Halts}
use Rattle.laws.specs.RunRulesHold.{runs_exactly, halts_exactly}
use Rattle.laws.proofs.ChainReached.{ok_same}
use Rattle.laws.specs.OperationCauses.{Refusal, at_form, Before, earlier_stage, same_stage, RefusedWithTheFirst}
use Rattle.laws.specs.OperationCauses.{by_cause}
use Rattle.laws.specs.OperationCauses.{CheckCause, RunCause}
use Rattle.laws.proofs.OperationCausesFirst.{exact_free, exact_first, exact_number, first_by, CauseOf, limits, slices, long_1, in_1, long_2}
use Rattle.laws.proofs.OperationCausesFirst.{in_2, later, two_texts}
use Rattle.laws.proofs.OperationCausesParts.{exact_json, exact_shape, exact_reader, exact_check, exact_run, answer_in, finishing}
use Rattle.laws.proofs.OperationCausesParts.{end_late, ShapeEnd, shape_first, ResultEnd, result_first}
use Rattle.laws.proofs.OperationCausesParts.{over, short}

module _ (published lent : List ℕ) (l : Limits) where
  -- ---- check

  module _ (output : Bytes) where
    -- what comes behind a reader and a shape that were read
    data CheckEnd (r : Result) (s : Shape) : Refusal → Type 0 where
      refuses : {n p : ℕ} → Refuses (s ∷ []) r n p → CheckEnd r s (at_form n p)
      gives : {u : Shape} {k : Refusal} → Checks (s ∷ []) r u → ShapeEnd l output u k → CheckEnd r s k

    check_end_late : {r : Result} {s : Shape} (k : Refusal) → CheckEnd r s k → 6 ≤ k.stage
    check_end_late k (refuses c) = lit≤ tt
    check_end_late k (gives d c) = let n : 6 < k.stage = end_late k c in omega arith

    check_end
        : (r : Result) (s : Shape)
        → RefusedWithTheFirst (CheckEnd r s) (answer_in output (in_text 1 (check_reader r s) >>= λ t. shape_out l t))
    unfolding in_text ◌>>=◌ finish refusal answer_in
    check_end r s = go (check_reader r s) refl
      where
        before : {n p : ℕ} → check_reader r s ≡ refused n p → (j : Refusal) → CheckEnd r s j → Before (at_form n p) j
        before e j (refuses c) = same_stage refl (exact_first (exact_check r s) e c)
        before e j (gives d c) = earlier_stage (end_late j c)

        only : {u : Shape} → check_reader r s ≡ ok u → (k : Refusal) → CheckEnd r s k → ShapeEnd l output u k
        only e k (refuses c) = absurd (exact_free (exact_check r s) e c)
        only e k (gives {u} d c) = subst (λ (z : Shape). ShapeEnd l output z k) (ok_same ((checks_exactly r s u).1 d) e) c

        go : (o : Outcome ℕ Shape) → check_reader r s ≡ o
            → RefusedWithTheFirst (CheckEnd r s) (answer_in output (in_text 1 o >>= λ t. shape_out l t))
        go (ok u) e = first_by (λ k c. gives ((checks_exactly r s u).0 e) c) (only e) (shape_first l output u)
        go (refused n p) e =
            by_cause (at_form n p) (refuses ((refuses_exactly r s n p).0 e)) (exact_number (exact_check r s) e) (before e)

  module _ (reader second output : Bytes) where
    abbrev AfterCheck : Refusal → Type 0
    AfterCheck k =
        (r : Result) × (s : Shape) × (read_reader l reader ≡ ok r) × (read_shape l second ≡ ok s) × CheckEnd output r s k

    after_check_late : (k : Refusal) → AfterCheck k → 6 ≤ k.stage
    after_check_late k (r, s, e, f, c) = check_end_late output k c

    after_check
        : (r : Result) (s : Shape) → read_reader l reader ≡ ok r → read_shape l second ≡ ok s
        → RefusedWithTheFirst AfterCheck (answer_in output (in_text 1 (check_reader r s) >>= λ t. shape_out l t))
    after_check r s e f =
        first_by (λ k c. (r, s, e, f, c))
        (λ k (r', s', e', f', c).
        subst (λ (z : Shape). CheckEnd output r z k) (ok_same f' f) (subst (λ (z : Result). CheckEnd output z s' k) (ok_same e' e) c))
        (check_end output r s)

    abbrev CheckCauses : Refusal → Type 0
    CheckCauses = CauseOf published lent l (ReaderCause l reader) reader (ShapeCause l second) second AfterCheck

    check_end_to
        : (r : Result) (s u : Shape) → read_reader l reader ≡ ok r → read_shape l second ≡ ok s → Checks (s ∷ []) r u → (k : Refusal)
        → ShapeEnd l output u k → CheckCause published lent l reader second output k
    check_end_to r s u e f d k (over c) = CheckCause.row_11 e f d c
    check_end_to r s u e f d k (short c) = CheckCause.row_15 e f d c

    check_to : (k : Refusal) → CheckCauses k → CheckCause published lent l reader second output k
    check_to k (limits e) = CheckCause.row_18 e
    check_to k (slices e) = CheckCause.row_1 e
    check_to k (long_1 e) = CheckCause.row_2_first e
    check_to k (in_1 c) = CheckCause.rows_7_and_8_first c
    check_to k (long_2 e) = CheckCause.row_2_second e
    check_to k (in_2 c) = CheckCause.rows_7_and_8_second c
    check_to k (later (r, s, e, f, refuses c)) = CheckCause.rows_9_and_10 e f c
    check_to k (later (r, s, e, f, gives {u} d c)) = check_end_to r s u e f d k c

    check_from : (k : Refusal) → CheckCause published lent l reader second output k → CheckCauses k
    check_from k (CheckCause.row_18 e) = limits e
    check_from k (CheckCause.row_1 e) = slices e
    check_from k (CheckCause.row_2_first e) = long_1 e
    check_from k (CheckCause.rows_7_and_8_first c) = in_1 c
    check_from k (CheckCause.row_2_second e) = long_2 e
    check_from k (CheckCause.rows_7_and_8_second c) = in_2 c
    check_from k (CheckCause.rows_9_and_10 {r} {s} e f c) = later (r, s, e, f, refuses c)
    check_from k (CheckCause.row_11 {r} {s} e f d c) = later (r, s, e, f, gives d (over c))
    check_from k (CheckCause.row_15 {r} {s} e f d c) = later (r, s, e, f, gives d (short c))

    pub check_first
        : RefusedWithTheFirst
        (CheckCause published lent l reader second output)
        (check_operation published lent l reader second output).answer
    unfolding check_operation check_judged answer_in
    check_first =
        first_by check_to check_from
        (two_texts published lent l read_reader reader read_shape second after_check_late (exact_reader l reader) (exact_shape l second)
        (finishing output) _ after_check)

  -- ---- run

  module _ (output : Bytes) where
    data RunEnd (r : Result) (v : Value) : Refusal → Type 0 where
      halts : {n p : ℕ} → Halts l (v ∷ []) 0 r n p → RunEnd r v (at_form n p)
      runs : {w : Value} {m : ℕ} {k : Refusal} → Runs l (v ∷ []) 0 r w m → ResultEnd l output w k → RunEnd r v k

    run_end_late : {r : Result} {v : Value} (k : Refusal) → RunEnd r v k → 6 ≤ k.stage
    run_end_late k (halts c) = lit≤ tt
    run_end_late k (runs d c) = let n : 6 < k.stage = end_late k c in omega arith

    run_end
        : (r : Result) (v : Value)
        → RefusedWithTheFirst (RunEnd r v) (answer_in output (in_text 1 (run_reader r l v) >>= λ x. result_out l x))
    unfolding in_text ◌>>=◌ finish refusal answer_in
    run_end r v = go (run_reader r l v) refl
      where
        before : {n p : ℕ} → run_reader r l v ≡ refused n p → (j : Refusal) → RunEnd r v j → Before (at_form n p) j
        before e j (halts c) = same_stage refl (exact_first (exact_run r l v) e c)
        before e j (runs d c) = earlier_stage (end_late j c)

        only : {x : Ran Value} → run_reader r l v ≡ ok x → (k : Refusal) → RunEnd r v k → ResultEnd l output x.result k
        only e k (halts c) = absurd (exact_free (exact_run r l v) e c)
        only {x} e k (runs {w} {m} d c) =
            subst (λ (z : Ran Value). ResultEnd l output z.result k)
            (ok_same ((runs_exactly r l v (record { result = w; steps = m })).1 d) e)
            c

        go : (o : Outcome ℕ (Ran Value)) → run_reader r l v ≡ o
            → RefusedWithTheFirst (RunEnd r v) (answer_in output (in_text 1 o >>= λ x. result_out l x))
        go (ok x) e = first_by (λ k c. runs ((runs_exactly r l v x).0 e) c) (only e) (result_first l output x)
        go (refused n p) e = by_cause (at_form n p) (halts ((halts_exactly r l v n p).0 e)) (exact_number (exact_run r l v) e) (before e)

  module _ (reader document output : Bytes) where
    abbrev AfterRun : Refusal → Type 0
    AfterRun k =
        (r : Result) × (v : Value) × (read_reader l reader ≡ ok r) × (read_json l document ≡ ok v) × RunEnd output r v k

    after_run_late : (k : Refusal) → AfterRun k → 6 ≤ k.stage
    after_run_late k (r, v, e, f, c) = run_end_late output k c

    after_run
        : (r : Result) (v : Value) → read_reader l reader ≡ ok r → read_json l document ≡ ok v
        → RefusedWithTheFirst AfterRun (answer_in output (in_text 1 (run_reader r l v) >>= λ x. result_out l x))
    after_run r v e f =
        first_by (λ k c. (r, v, e, f, c))
        (λ k (r', v', e', f', c).
        subst (λ (z : Value). RunEnd output r z k) (ok_same f' f) (subst (λ (z : Result). RunEnd output z v' k) (ok_same e' e) c))
        (run_end output r v)

    abbrev RunCauses : Refusal → Type 0
    RunCauses = CauseOf published lent l (ReaderCause l reader) reader (Cause l document) document AfterRun

    run_end_to
        : (r : Result) (v w : Value) (m : ℕ) → read_reader l reader ≡ ok r → read_json l document ≡ ok v → Runs l (v ∷ []) 0 r w m
        → (k : Refusal) → ResultEnd l output w k → RunCause published lent l reader document output k
    run_end_to r v w m e f d k (over c) = RunCause.row_14 e f d c
    run_end_to r v w m e f d k (short c) = RunCause.row_15 e f d c

    run_to : (k : Refusal) → RunCauses k → RunCause published lent l reader document output k
    run_to k (limits e) = RunCause.row_18 e
    run_to k (slices e) = RunCause.row_1 e
    run_to k (long_1 e) = RunCause.row_2_first e
    run_to k (in_1 c) = RunCause.rows_7_and_8 c
    run_to k (long_2 e) = RunCause.row_2_second e
    run_to k (in_2 c) = RunCause.rows_3_to_6 c
    run_to k (later (r, v, e, f, halts c)) = RunCause.rows_12_and_13 e f c
    run_to k (later (r, v, e, f, runs {w} {m} d c)) = run_end_to r v w m e f d k c

    run_from : (k : Refusal) → RunCause published lent l reader document output k → RunCauses k
    run_from k (RunCause.row_18 e) = limits e
    run_from k (RunCause.row_1 e) = slices e
    run_from k (RunCause.row_2_first e) = long_1 e
    run_from k (RunCause.rows_7_and_8 c) = in_1 c
    run_from k (RunCause.row_2_second e) = long_2 e
    run_from k (RunCause.rows_3_to_6 c) = in_2 c
    run_from k (RunCause.rows_12_and_13 {r} {v} e f c) = later (r, v, e, f, halts c)
    run_from k (RunCause.row_14 {r} {v} e f d c) = later (r, v, e, f, runs d (over c))
    run_from k (RunCause.row_15 {r} {v} e f d c) = later (r, v, e, f, runs d (short c))

    pub run_first
        : RefusedWithTheFirst
        (RunCause published lent l reader document output)
        (run_operation read_json published lent l reader document output).answer
    unfolding run_operation run_judged answer_in
    run_first =
        first_by run_to run_from
        (two_texts published lent l read_reader reader read_json document after_run_late (exact_reader l reader) (exact_json l document)
        (finishing output) _ after_run)
