-- Plain, infer, join, below and admits: each is refused with the first of its causes, or succeeds where none stands. Assumes nothing.
use Rattle.std.specs.Prelude.{ℕ, ◌≤◌, ◌<◌, ◌≡◌, Bool, false, List, []}
use Rattle.std.proofs.Common.{arith, sym, subst, true≢false, lit<}
use Rattle.std.proofs.Math.Path.{refl}
use Rattle.definitions.specs.declared.Limits.{Limits}
use Rattle.definitions.specs.Bytes.{Bytes}
use Rattle.definitions.specs.Outcome.{ok}
use Rattle.definitions.specs.Value.{Value}
use Rattle.definitions.specs.Json.{read_json}
use Rattle.definitions.specs.Plain.{plain}
use Rattle.definitions.specs.Shape.{Shape}
use Rattle.definitions.specs.Join.{join, shape_of}
use Rattle.definitions.specs.ShapeText.{read_shape}
use Rattle.definitions.specs.Operations.{passed, said, to_write}
use Rattle.definitions.specs.Operations.{shape_out, say, plain_judged, infer_judged, join_judged, below_judged}
use Rattle.definitions.specs.Operations.{admits_judged, plain_operation, infer_operation, join_operation}
use Rattle.definitions.specs.Operations.{below_operation, admits_operation}
use Rattle.laws.specs.Causes.{Cause}
use Rattle.laws.specs.FormCauses.{ShapeCause}
use Rattle.laws.proofs.ChainReached.{ok_same}
use Rattle.laws.specs.OperationCauses.{Refusal, RefusedWithTheFirst}
use Rattle.laws.specs.OperationCauses.{by_none, PlainCause, InferCause, JoinCause, BelowCause, AdmitsCause}
use Rattle.laws.proofs.OperationCausesFirst.{first_by, CauseOf, limits, slices, long_1, in_1, long_2}
use Rattle.laws.proofs.OperationCausesFirst.{in_2, later, two_texts, NoCause, one_text}
use Rattle.laws.proofs.OperationCausesParts.{exact_json, exact_shape, answer_in, finishing}
use Rattle.laws.proofs.OperationCausesParts.{saying, EndCause, end_late, end_first, ShapeEnd, shape_first}
use Rattle.laws.proofs.OperationCausesParts.{over, short}

module _ (published lent : List ℕ) (l : Limits) where
  -- ---- plain

  module _ (document output : Bytes) where
    abbrev AfterPlain : Refusal → Type 0
    AfterPlain k = (v : Value) × (read_json l document ≡ ok v) × EndCause 15 false (plain v) output k

    plain_late : (k : Refusal) → AfterPlain k → 6 ≤ k.stage
    plain_late k (v, e, c) = let n : 6 < k.stage = end_late k c in omega arith

    plain_end : (v : Value) → read_json l document ≡ ok v → RefusedWithTheFirst AfterPlain (answer_in output (passed (to_write (plain v) 0)))
    plain_end v e =
        first_by (λ k c. (v, e, c))
        (λ k (w, f, c). subst (λ (z : Value). EndCause 15 false (plain z) output k) (ok_same f e) c)
        (end_first 15 false (plain v) output 0 (passed (to_write (plain v) 0)) (lit< tt) (λ z. absurd (true≢false (sym z))) (λ z. refl))

    abbrev PlainCauses : Refusal → Type 0
    PlainCauses = CauseOf published lent l (Cause l document) document NoCause [] AfterPlain

    plain_end_to
        : (v : Value) → read_json l document ≡ ok v → (k : Refusal) → EndCause 15 false (plain v) output k
        → PlainCause published lent l document output k
    plain_end_to v e k (over c) = absurd (true≢false (sym c))
    plain_end_to v e k (short c) = PlainCause.row_15 e c

    plain_to : (k : Refusal) → PlainCauses k → PlainCause published lent l document output k
    plain_to k (limits e) = PlainCause.row_18 e
    plain_to k (slices e) = PlainCause.row_1 e
    plain_to k (long_1 e) = PlainCause.row_2 e
    plain_to k (in_1 c) = PlainCause.rows_3_to_6 c
    plain_to k (long_2 e) = absurd (let z : ⊥ = omega arith in z)
    plain_to k (in_2 c) = absurd c
    plain_to k (later (v, e, c)) = plain_end_to v e k c

    plain_from : (k : Refusal) → PlainCause published lent l document output k → PlainCauses k
    plain_from k (PlainCause.row_18 e) = limits e
    plain_from k (PlainCause.row_1 e) = slices e
    plain_from k (PlainCause.row_2 e) = long_1 e
    plain_from k (PlainCause.rows_3_to_6 c) = in_1 c
    plain_from k (PlainCause.row_15 {v} e c) = later (v, e, short c)

    pub plain_first
        : RefusedWithTheFirst (PlainCause published lent l document output) (plain_operation read_json published lent l document output).answer
    unfolding plain_operation plain_judged answer_in
    plain_first =
        first_by plain_to plain_from
        (one_text published lent l read_json document plain_late (exact_json l document) (finishing output) _ plain_end)

  -- ---- infer

  module _ (first document output : Bytes) where
    abbrev AfterInfer : Refusal → Type 0
    AfterInfer k =
        (s : Shape) × (v : Value) × (read_shape l first ≡ ok s) × (read_json l document ≡ ok v) × ShapeEnd l output (join s (shape_of v)) k

    infer_late : (k : Refusal) → AfterInfer k → 6 ≤ k.stage
    infer_late k (s, v, e, f, c) = let n : 6 < k.stage = end_late k c in omega arith

    infer_end
        : (s : Shape) (v : Value) → read_shape l first ≡ ok s → read_json l document ≡ ok v
        → RefusedWithTheFirst AfterInfer (answer_in output (shape_out l (join s (shape_of v))))
    infer_end s v e f =
        first_by (λ k c. (s, v, e, f, c))
        (λ k (s', v', e', f', c).
        subst (λ (z : Value). ShapeEnd l output (join s (shape_of z)) k) (ok_same f' f)
        (subst (λ (z : Shape). ShapeEnd l output (join z (shape_of v')) k) (ok_same e' e) c))
        (shape_first l output (join s (shape_of v)))

    abbrev InferCauses : Refusal → Type 0
    InferCauses = CauseOf published lent l (ShapeCause l first) first (Cause l document) document AfterInfer

    infer_end_to
        : (s : Shape) (v : Value) → read_shape l first ≡ ok s → read_json l document ≡ ok v → (k : Refusal)
        → ShapeEnd l output (join s (shape_of v)) k → InferCause published lent l first document output k
    infer_end_to s v e f k (over c) = InferCause.row_11 e f c
    infer_end_to s v e f k (short c) = InferCause.row_15 e f c

    infer_to : (k : Refusal) → InferCauses k → InferCause published lent l first document output k
    infer_to k (limits e) = InferCause.row_18 e
    infer_to k (slices e) = InferCause.row_1 e
    infer_to k (long_1 e) = InferCause.row_2_first e
    infer_to k (in_1 c) = InferCause.rows_7_and_8 c
    infer_to k (long_2 e) = InferCause.row_2_second e
    infer_to k (in_2 c) = InferCause.rows_3_to_6 c
    infer_to k (later (s, v, e, f, c)) = infer_end_to s v e f k c

    infer_from : (k : Refusal) → InferCause published lent l first document output k → InferCauses k
    infer_from k (InferCause.row_18 e) = limits e
    infer_from k (InferCause.row_1 e) = slices e
    infer_from k (InferCause.row_2_first e) = long_1 e
    infer_from k (InferCause.rows_7_and_8 c) = in_1 c
    infer_from k (InferCause.row_2_second e) = long_2 e
    infer_from k (InferCause.rows_3_to_6 c) = in_2 c
    infer_from k (InferCause.row_11 {s} {v} e f c) = later (s, v, e, f, over c)
    infer_from k (InferCause.row_15 {s} {v} e f c) = later (s, v, e, f, short c)

    pub infer_first
        : RefusedWithTheFirst
        (InferCause published lent l first document output)
        (infer_operation read_json published lent l first document output).answer
    unfolding infer_operation infer_judged answer_in
    infer_first =
        first_by infer_to infer_from
        (two_texts published lent l read_shape first read_json document infer_late (exact_shape l first) (exact_json l document)
        (finishing output) _ infer_end)

  -- ---- join

  module _ (first second output : Bytes) where
    abbrev AfterJoin : Refusal → Type 0
    AfterJoin k =
        (s : Shape) × (t : Shape) × (read_shape l first ≡ ok s) × (read_shape l second ≡ ok t) × ShapeEnd l output (join s t) k

    join_late : (k : Refusal) → AfterJoin k → 6 ≤ k.stage
    join_late k (s, t, e, f, c) = let n : 6 < k.stage = end_late k c in omega arith

    join_end
        : (s t : Shape) → read_shape l first ≡ ok s → read_shape l second ≡ ok t
        → RefusedWithTheFirst AfterJoin (answer_in output (shape_out l (join s t)))
    join_end s t e f =
        first_by (λ k c. (s, t, e, f, c))
        (λ k (s', t', e', f', c).
        subst (λ (z : Shape). ShapeEnd l output (join s z) k) (ok_same f' f)
        (subst (λ (z : Shape). ShapeEnd l output (join z t') k) (ok_same e' e) c))
        (shape_first l output (join s t))

    abbrev JoinCauses : Refusal → Type 0
    JoinCauses = CauseOf published lent l (ShapeCause l first) first (ShapeCause l second) second AfterJoin

    join_end_to
        : (s t : Shape) → read_shape l first ≡ ok s → read_shape l second ≡ ok t → (k : Refusal) → ShapeEnd l output (join s t) k
        → JoinCause published lent l first second output k
    join_end_to s t e f k (over c) = JoinCause.row_11 e f c
    join_end_to s t e f k (short c) = JoinCause.row_15 e f c

    join_to : (k : Refusal) → JoinCauses k → JoinCause published lent l first second output k
    join_to k (limits e) = JoinCause.row_18 e
    join_to k (slices e) = JoinCause.row_1 e
    join_to k (long_1 e) = JoinCause.row_2_first e
    join_to k (in_1 c) = JoinCause.rows_7_and_8_first c
    join_to k (long_2 e) = JoinCause.row_2_second e
    join_to k (in_2 c) = JoinCause.rows_7_and_8_second c
    join_to k (later (s, t, e, f, c)) = join_end_to s t e f k c

    join_from : (k : Refusal) → JoinCause published lent l first second output k → JoinCauses k
    join_from k (JoinCause.row_18 e) = limits e
    join_from k (JoinCause.row_1 e) = slices e
    join_from k (JoinCause.row_2_first e) = long_1 e
    join_from k (JoinCause.rows_7_and_8_first c) = in_1 c
    join_from k (JoinCause.row_2_second e) = long_2 e
    join_from k (JoinCause.rows_7_and_8_second c) = in_2 c
    join_from k (JoinCause.row_11 {s} {t} e f c) = later (s, t, e, f, over c)
    join_from k (JoinCause.row_15 {s} {t} e f c) = later (s, t, e, f, short c)

    pub join_first
        : RefusedWithTheFirst
        (JoinCause published lent l first second output)
        (join_operation published lent l first second output).answer
    unfolding join_operation join_judged answer_in
    join_first =
        first_by join_to join_from
        (two_texts published lent l read_shape first read_shape second join_late (exact_shape l first) (exact_shape l second)
        (finishing output) _ join_end)

  -- ---- below and admits: nothing comes behind the texts

  abbrev AfterNone : Refusal → Type 0
  AfterNone k = ⊥

  none_late : (k : Refusal) → AfterNone k → 6 ≤ k.stage
  none_late k e = absurd e

  said_first : (y : Bool) → RefusedWithTheFirst AfterNone (say (passed y))
  unfolding say said
  said_first y = by_none refl (λ k e. e)

  module _ (first second : Bytes) where
    abbrev BelowCauses : Refusal → Type 0
    BelowCauses = CauseOf published lent l (ShapeCause l first) first (ShapeCause l second) second AfterNone

    below_to : (k : Refusal) → BelowCauses k → BelowCause published lent l first second k
    below_to k (limits e) = BelowCause.row_18 e
    below_to k (slices e) = BelowCause.row_1 e
    below_to k (long_1 e) = BelowCause.row_2_first e
    below_to k (in_1 c) = BelowCause.rows_7_and_8_first c
    below_to k (long_2 e) = BelowCause.row_2_second e
    below_to k (in_2 c) = BelowCause.rows_7_and_8_second c
    below_to k (later e) = absurd e

    below_from : (k : Refusal) → BelowCause published lent l first second k → BelowCauses k
    below_from k (BelowCause.row_18 e) = limits e
    below_from k (BelowCause.row_1 e) = slices e
    below_from k (BelowCause.row_2_first e) = long_1 e
    below_from k (BelowCause.rows_7_and_8_first c) = in_1 c
    below_from k (BelowCause.row_2_second e) = long_2 e
    below_from k (BelowCause.rows_7_and_8_second c) = in_2 c

    pub below_first : RefusedWithTheFirst (BelowCause published lent l first second) (below_operation published lent l first second)
    unfolding below_operation below_judged
    below_first =
        first_by below_to below_from
        (two_texts published lent l read_shape first read_shape second none_late (exact_shape l first) (exact_shape l second) saying _
        λ s t e f. said_first _)

  module _ (first document : Bytes) where
    abbrev AdmitsCauses : Refusal → Type 0
    AdmitsCauses = CauseOf published lent l (ShapeCause l first) first (Cause l document) document AfterNone

    admits_to : (k : Refusal) → AdmitsCauses k → AdmitsCause published lent l first document k
    admits_to k (limits e) = AdmitsCause.row_18 e
    admits_to k (slices e) = AdmitsCause.row_1 e
    admits_to k (long_1 e) = AdmitsCause.row_2_first e
    admits_to k (in_1 c) = AdmitsCause.rows_7_and_8 c
    admits_to k (long_2 e) = AdmitsCause.row_2_second e
    admits_to k (in_2 c) = AdmitsCause.rows_3_to_6 c
    admits_to k (later e) = absurd e

    admits_from : (k : Refusal) → AdmitsCause published lent l first document k → AdmitsCauses k
    admits_from k (AdmitsCause.row_18 e) = limits e
    admits_from k (AdmitsCause.row_1 e) = slices e
    admits_from k (AdmitsCause.row_2_first e) = long_1 e
    admits_from k (AdmitsCause.rows_7_and_8 c) = in_1 c
    admits_from k (AdmitsCause.row_2_second e) = long_2 e
    admits_from k (AdmitsCause.rows_3_to_6 c) = in_2 c

    pub admits_first
        : RefusedWithTheFirst (AdmitsCause published lent l first document) (admits_operation read_json published lent l first document)
    unfolding admits_operation admits_judged
    admits_first =
        first_by admits_to admits_from
        (two_texts published lent l read_shape first read_json document none_late (exact_shape l first) (exact_json l document) saying _
        λ s v e f. said_first _)
