-- What is accepted at one set of limits is accepted at every larger one, with the same answer and the same output. Assumes nothing.
use Prim.Native.Nat.{ℕ}
use Rattle.std.proofs.Common.{le_trans, sym, ◌∙◌}
use Rattle.std.specs.Prelude.{◌≡◌, Bool, true, false, List}
use Rattle.std.proofs.Math.Path.{ap}
use Rattle.definitions.specs.declared.Limits.{Limits}
use Rattle.definitions.specs.declared.Answer.{Answer}
use Rattle.definitions.specs.Limits.{in_range}
use Rattle.definitions.specs.Bytes.{Bytes}
use Rattle.definitions.specs.Outcome.{Outcome, ok}
use Rattle.definitions.specs.Value.{Value}
use Rattle.definitions.specs.Json.{read_json}
use Rattle.definitions.specs.Shape.{Shape}
use Rattle.definitions.specs.ShapeText.{read_shape}
use Rattle.definitions.specs.Tokens.{Placed}
use Rattle.definitions.specs.Reader.{Result, read_reader}
use Rattle.definitions.specs.Checking.{check_reader}
use Rattle.definitions.specs.Running.{Ran, run_reader}
use Rattle.definitions.specs.Operations.{Source, Judged, passed, ◌>>=◌, Reading, in_text, judge_text, judge_both, slices_short}
use Rattle.definitions.specs.Operations.{prelude, TextOut, shape_out, result_out, finish, say, plain_judged, infer_judged, join_judged}
use Rattle.definitions.specs.Operations.{below_judged, admits_judged, check_judged, run_judged, plain_operation, infer_operation}
use Rattle.definitions.specs.Operations.{join_operation, below_operation, admits_operation, check_operation, run_operation}
use Rattle.definitions.specs.Calls.{call, quiet, buffer_published, buffer_lent, plain_call, infer_call, join_call, below_call, admits_call}
use Rattle.definitions.specs.Calls.{check_call, run_call}
use Rattle.laws.specs.Judging.{Positive, in_text_passed, text_reads, text_passed, bind_passed, bind_of, prelude_positive}
use Rattle.laws.specs.Judging.{prelude_long, prelude_passed, shape_out_passed, shape_out_fits, shape_fits, fits_shape, result_out_fits}
use Rattle.laws.specs.Judging.{finish_zero, say_zero}
use Rattle.laws.specs.Tree.{Fits}
use Rattle.laws.proofs.JsonAdequate.{json_accepted_to, json_accepted_from}
use Rattle.laws.proofs.ShapeForms.{shape_accepted_to, shape_accepted_from}
use Rattle.laws.specs.FormGrammar.{ReaderWithin, one_form, no_token}
use Rattle.laws.proofs.ReaderForms.{reader_accepted_to, reader_accepted_from}
use Rattle.laws.specs.RunLaws.{run_steps_bounded}
use Rattle.laws.specs.SoundSteps.{run_enough}
use Rattle.laws.specs.Larger.{Larger, ReadsOn}
use Rattle.laws.proofs.Positives.{source_numbered, plain_positive, infer_positive, join_positive, below_positive, admits_positive}
use Rattle.laws.proofs.Positives.{check_positive, run_positive}
use Rattle.laws.specs.Chain.{ProperSource}
use Rattle.laws.specs.Statements.{OperationsGoOn, CallsGoOn}
use Rattle.laws.proofs.WrittenDocuments.{result_out_passed, result_fits, fits_result}

-- ---- texts

pub json_reads_on : ReadsOn read_json
json_reads_on l m g s v e =
    let (x, h, f, w) = json_accepted_to l s v e in
    let fits : Fits m x =
    record {
      numbers = f.numbers;
      names = f.names;
      values = le_trans f.values g.values;
      depth = le_trans f.depth g.nesting;
    } in
    json_accepted_from m s x h fits ∙ ap ok w

shape_reads_on : (l m : Limits) → Larger l m → (s : Bytes) (t : Shape) → read_shape l s ≡ ok t → read_shape m s ≡ ok t
shape_reads_on l m g s t e =
    let (f, a, b) = shape_accepted_to l s t e in shape_accepted_from m s t f (le_trans a g.values) (le_trans b g.nesting)

reader_reads_on : (l m : Limits) → Larger l m → (s : Bytes) (r : Result) → read_reader l s ≡ ok r → read_reader m s ≡ ok r
reader_reads_on l m g s r e = reader_accepted_from m s r (within_larger (reader_accepted_to l s r e))
  where
    within_larger : {ts : List Placed} {q : Result} → ReaderWithin l ts q → ReaderWithin m ts q
    within_larger (one_form f a b) = one_form f (le_trans a g.values) (le_trans b g.nesting)
    within_larger no_token = no_token

-- ---- what passed at one set passes at the other

abbrev Kept : {A : Type 0} → Judged A → Judged A → Type 0
Kept {A} j k = (a : A) → j ≡ passed a → k ≡ passed a

bind_kept
    : {A B : Type 0} (j k : Judged A) (f h : A → Judged B) → Kept j k → ((a : A) → Kept (f a) (h a)) → Kept (j >>= f) (k >>= h)
bind_kept j k f h p q b e = let (a, x, y) = bind_passed j f b e in bind_of h (p a x) ∙ q a b y

all_kept : {A : Type 0} (j : Judged A) → Kept j j
all_kept j a e = e

module _ (l m : Limits) (g : Larger l m) where
  -- a reading that goes on with what it read
  abbrev On : {A : Type 0} → Reading A → Bytes → Type 0
  On {A} read s = (a : A) → read l s ≡ ok a → read m s ≡ ok a

  text_kept : {A : Type 0} (k : ℕ) (read : Reading A) (s : Bytes) → On read s → Kept (judge_text k l read s) (judge_text k m read s)
  text_kept k read s on a e = let (h, f) = text_passed k l read s a e in text_reads k m read s a (le_trans h g.bytes) (on a f)

  both_kept
      : {A B : Type 0} (read : Reading A) (s : Bytes) (read' : Reading B) (t : Bytes) → On read s → On read' t
      → Kept (judge_both l read s read' t) (judge_both m read s read' t)
  unfolding judge_both
  both_kept read s read' t on on' =
      bind_kept _ _ _ _ (text_kept 1 read s on) λ a. bind_kept _ _ _ _ (text_kept 2 read' t on') λ b. all_kept _

  shape_kept : (s : Shape) → Kept (shape_out l s) (shape_out m s)
  shape_kept s a e =
      let (o, w) = shape_out_passed l s a e in
      let (x, y, z) = shape_fits l s o in
      shape_out_fits m s (fits_shape m s (le_trans x g.values) (le_trans y g.nesting) (le_trans z g.bytes)) ∙ ap passed (sym w)

  result_kept : (x : Ran Value) → Kept (result_out l x) (result_out m x)
  result_kept x a e =
      let (o, w) = result_out_passed l x a e in
      let (y, z) = result_fits l x.result o in
      result_out_fits m x (fits_result m x.result (le_trans y g.values) (le_trans z g.nesting)) ∙ ap passed (sym w)

  running_kept : (r : Result) (v : Value) → Kept (in_text 1 (run_reader r l v)) (in_text 1 (run_reader r m v))
  unfolding in_text
  running_kept r v x e =
      let f = in_text_passed 1 (run_reader r l v) x e in
      ap (λ (o : Outcome ℕ (Ran Value)). in_text 1 o) (run_enough r l m v x f (le_trans (run_steps_bounded r l v x f) g.steps))

  -- ---- the operations, behind their prelude

  pub join_kept : (first second : Bytes) → Kept (join_judged l first second) (join_judged m first second)
  unfolding join_judged
  join_kept first second =
      bind_kept _ _ _ _ (both_kept read_shape first read_shape second (shape_reads_on l m g first) (shape_reads_on l m g second)) λ (s, t).
      shape_kept _

  pub below_kept : (first second : Bytes) → Kept (below_judged l first second) (below_judged m first second)
  unfolding below_judged
  below_kept first second =
      bind_kept _ _ _ _ (both_kept read_shape first read_shape second (shape_reads_on l m g first) (shape_reads_on l m g second)) λ (s, t).
      all_kept _

  pub check_kept : (reader shape : Bytes) → Kept (check_judged l reader shape) (check_judged m reader shape)
  unfolding check_judged
  check_kept reader shape =
      bind_kept _ _ _ _ (both_kept read_reader reader read_shape shape (reader_reads_on l m g reader) (shape_reads_on l m g shape)) λ (r, s).
      bind_kept _ _ _ _ (all_kept (in_text 1 (check_reader r s))) λ t. shape_kept t

  module _ (source : Source) (on : ReadsOn source) where
    pub plain_kept : (document : Bytes) → Kept (plain_judged source l document) (plain_judged source m document)
    unfolding plain_judged
    plain_kept document = bind_kept _ _ _ _ (text_kept 1 source document (on l m g document)) λ v. all_kept _

    pub infer_kept : (shape document : Bytes) → Kept (infer_judged source l shape document) (infer_judged source m shape document)
    unfolding infer_judged
    infer_kept shape document =
        bind_kept _ _ _ _ (both_kept read_shape shape source document (shape_reads_on l m g shape) (on l m g document)) λ (s, v). shape_kept _

    pub admits_kept : (shape document : Bytes) → Kept (admits_judged source l shape document) (admits_judged source m shape document)
    unfolding admits_judged
    admits_kept shape document =
        bind_kept _ _ _ _ (both_kept read_shape shape source document (shape_reads_on l m g shape) (on l m g document)) λ (s, v). all_kept _

    pub run_kept : (reader document : Bytes) → Kept (run_judged source l reader document) (run_judged source m reader document)
    unfolding run_judged
    run_kept reader document =
        bind_kept _ _ _ _ (both_kept read_reader reader source document (reader_reads_on l m g reader) (on l m g document)) λ (r, v).
        bind_kept _ _ _ _ (running_kept r v) λ x. result_kept x

  -- ---- behind any prelude

  module _ (range : in_range m ≡ true) where
    -- what the prelude before j passed, the one before k passes where the slices are long enough for it
    passed_again
        : {A : Type 0} {j k : Judged A} (published lent for_larger lent_to_it : List ℕ) (a : A) → Kept j k
        → (slices_short published lent ≡ false → slices_short for_larger lent_to_it ≡ false) → prelude l published lent j ≡ passed a
        → prelude m for_larger lent_to_it k ≡ prelude l published lent j
    passed_again {j = j} {k} published lent for_larger lent_to_it a kept long f =
        let (r, w, q) = prelude_passed l published lent j a f in prelude_long m for_larger lent_to_it k range (long w) ∙ kept a q ∙ sym f

    pub finishes_the_same
        : {j k : Judged TextOut} (published lent for_larger lent_to_it : List ℕ) (output : Bytes) → Positive j → Kept j k
        → (slices_short published lent ≡ false → slices_short for_larger lent_to_it ≡ false)
        → (finish output (prelude l published lent j)).answer.number ≡ 0
        → finish output (prelude m for_larger lent_to_it k) ≡ finish output (prelude l published lent j)
    finishes_the_same {j} {k} published lent for_larger lent_to_it output h kept long e =
        let (t, f, room) = finish_zero output (prelude l published lent j) (prelude_positive l published lent j h) e in
        ap (λ (x : Judged TextOut). finish output x) (passed_again published lent for_larger lent_to_it t kept long f)

    pub says_the_same
        : {j k : Judged Bool} (published lent for_larger lent_to_it : List ℕ) → Positive j → Kept j k
        → (slices_short published lent ≡ false → slices_short for_larger lent_to_it ≡ false)
        → (say (prelude l published lent j)).number ≡ 0 → say (prelude m for_larger lent_to_it k) ≡ say (prelude l published lent j)
    says_the_same {j} {k} published lent for_larger lent_to_it h kept long e =
        let (t, f) = say_zero (prelude l published lent j) (prelude_positive l published lent j h) e in
        ap say (passed_again published lent for_larger lent_to_it t kept long f)

-- ---- the operations and the C calls

module _ (source : Source) (proper : ProperSource source) (on : ReadsOn source) where
  pub operations_go_on : OperationsGoOn source
  unfolding plain_operation infer_operation join_operation below_operation admits_operation check_operation run_operation
  operations_go_on =
      record {
        by_plain =
            λ l m g r p q p' q' long document output e.
            finishes_the_same l m g r p q p' q' output (plain_positive source l (source_numbered proper l) document)
            (plain_kept l m g source on document) (λ w. long) e;
        by_infer =
            λ l m g r p q p' q' long shape document output e.
            finishes_the_same l m g r p q p' q' output (infer_positive source l (source_numbered proper l) shape document)
            (infer_kept l m g source on shape document) (λ w. long) e;
        by_join =
            λ l m g r p q p' q' long first second output e.
            finishes_the_same l m g r p q p' q' output (join_positive l first second) (join_kept l m g first second) (λ w. long) e;
        by_below =
            λ l m g r p q p' q' long first second e.
            says_the_same l m g r p q p' q' (below_positive l first second) (below_kept l m g first second) (λ w. long) e;
        by_admits =
            λ l m g r p q p' q' long shape document e.
            says_the_same l m g r p q p' q' (admits_positive source l (source_numbered proper l) shape document)
            (admits_kept l m g source on shape document) (λ w. long) e;
        by_check =
            λ l m g r p q p' q' long reader shape output e.
            finishes_the_same l m g r p q p' q' output (check_positive l reader shape) (check_kept l m g reader shape) (λ w. long) e;
        by_run =
            λ l m g r p q p' q' long reader document output e.
            finishes_the_same l m g r p q p' q' output (run_positive source l (source_numbered proper l) reader document)
            (run_kept l m g source on reader document) (λ w. long) e;
      }

  -- a call's answer buffer is its one slice, and long enough for every set
  pub calls_go_on : CallsGoOn source
  unfolding
      call quiet plain_call infer_call join_call below_call admits_call check_call run_call plain_operation infer_operation join_operation
      below_operation admits_operation check_operation run_operation
  calls_go_on =
      record {
        by_plain =
            λ l m g r document output buffer e.
            ap (call buffer)
            (finishes_the_same l m g r buffer_published (buffer_lent buffer) buffer_published (buffer_lent buffer) output
            (plain_positive source l (source_numbered proper l) document) (plain_kept l m g source on document) (λ w. w) e);
        by_infer =
            λ l m g r shape document output buffer e.
            ap (call buffer)
            (finishes_the_same l m g r buffer_published (buffer_lent buffer) buffer_published (buffer_lent buffer) output
            (infer_positive source l (source_numbered proper l) shape document) (infer_kept l m g source on shape document) (λ w. w) e);
        by_join =
            λ l m g r first second output buffer e.
            ap (call buffer)
            (finishes_the_same l m g r buffer_published (buffer_lent buffer) buffer_published (buffer_lent buffer) output
            (join_positive l first second) (join_kept l m g first second) (λ w. w) e);
        by_below =
            λ l m g r first second buffer e.
            ap (λ (a : Answer). call buffer (quiet a))
            (says_the_same l m g r buffer_published (buffer_lent buffer) buffer_published (buffer_lent buffer) (below_positive l first second)
            (below_kept l m g first second) (λ w. w) e);
        by_admits =
            λ l m g r shape document buffer e.
            ap (λ (a : Answer). call buffer (quiet a))
            (says_the_same l m g r buffer_published (buffer_lent buffer) buffer_published (buffer_lent buffer)
            (admits_positive source l (source_numbered proper l) shape document) (admits_kept l m g source on shape document) (λ w. w) e);
        by_check =
            λ l m g r reader shape output buffer e.
            ap (call buffer)
            (finishes_the_same l m g r buffer_published (buffer_lent buffer) buffer_published (buffer_lent buffer) output
            (check_positive l reader shape) (check_kept l m g reader shape) (λ w. w) e);
        by_run =
            λ l m g r reader document output buffer e.
            ap (call buffer)
            (finishes_the_same l m g r buffer_published (buffer_lent buffer) buffer_published (buffer_lent buffer) output
            (run_positive source l (source_numbered proper l) reader document) (run_kept l m g source on reader document) (λ w. w) e);
      }
