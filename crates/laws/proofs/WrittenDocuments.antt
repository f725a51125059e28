-- What plain and run write reads back as the value that the definitions give; and every call keeps its output on a refusal.
-- Assumes nothing.
use Rattle.std.specs.Prelude.{ℕ, ◌≤◌, ◌≡◌, refl, Bool, true, false, List, ltb, take}
use Rattle.std.proofs.Common.{le_trans, ◌∙◌, subst, lit≤}
use Rattle.std.proofs.Math.Path.{sym, ap}
use Rattle.definitions.specs.declared.Limits.{Limits}
use Rattle.definitions.specs.Bytes.{Bytes}
use Rattle.definitions.specs.Outcome.{ok}
use Rattle.definitions.specs.Number.{most_coefficient}
use Rattle.definitions.specs.Value.{Value, size, nesting}
use Rattle.definitions.specs.Json.{read_json}
use Rattle.definitions.specs.Plain.{plain}
use Rattle.definitions.specs.Reader.{Result, read_reader}
use Rattle.definitions.specs.Running.{Ran, run_reader}
use Rattle.definitions.specs.Operations.{Done, Source, Judged, passed, written, in_text, judge_text, prelude, TextOut, to_write, result_out}
use Rattle.definitions.specs.Operations.{plain_judged, run_judged, plain_operation, infer_operation, join_operation, check_operation, run_operation}
use Rattle.definitions.specs.Calls.{call, plain_call, infer_call, join_call, check_call, run_call}
use Rattle.laws.specs.LimitRanges.{bounds_of}
use Rattle.laws.specs.Bools.{or_false_left, or_false_right}
use Rattle.laws.specs.Tests.{ltb_le, le-ltb}
use Rattle.laws.proofs.JsonAdequate.{json_accepted_to, json_distinct}
use Rattle.laws.proofs.ReaderFacts.{reader_proper}
use Rattle.laws.proofs.RoundLaws.{plain_reads_back, plain_idempotent, json_read_good, reader_read_good, run_good}
use Rattle.laws.specs.RunLaws.{run_distinct}
use Rattle.laws.specs.Chain.{InRange}
use Rattle.laws.specs.Judging.{Positive, prelude_positive}
use Rattle.laws.specs.Judging.{stopped_not_passed, passed_same, bind_passed, prelude_passed, text_passed, both_passed, in_text_passed}
use Rattle.laws.specs.Judging.{result_over, result_out_over, result_out_fits, finish_zero, finish_written, front}
use Rattle.laws.proofs.Positives.{numbered_json, plain_positive, run_positive}
use Rattle.laws.proofs.WrittenShapes.{refusal_keeps}

-- ---- what a run gives reads back

-- a document that was read has no more values than a coefficient can count
read_small : (l : Limits) → InRange l → (s : Bytes) (v : Value) → read_json l s ≡ ok v → size v ≤ most_coefficient
unfolding most_coefficient
read_small l r s v e =
    let (x, h, f, m) = json_accepted_to l s v e in
    let k : size v ≤ l.values = subst (λ (w : Value). size w ≤ l.values) m f.values in
    let n : l.values ≤ 512 = (bounds_of r).values.1 in
    le_trans (le_trans k n) (lit≤ tt)

pub result_reads_back
    : (l : Limits) → InRange l → (text s : Bytes) (r : Result) (v : Value) (x : Ran Value) → read_reader l text ≡ ok r
    → read_json l s ≡ ok v → run_reader r l v ≡ ok x → size x.result ≤ l.values → nesting x.result ≤ l.nesting
    → read_json l (plain x.result) ≡ ok x.result
result_reads_back l range text s r v x t e run small shallow =
    plain_reads_back l x.result
    (run_good r l v x (reader_read_good l text r t) (json_read_good l s v e) (read_small l range s v e) run)
    (run_distinct r l v x (json_distinct l s v e) (reader_proper l text r t) run)
    small
    shallow

-- ---- the operations

pub result_out_passed
    : (l : Limits) (x : Ran Value) (t : TextOut) → result_out l x ≡ passed t
    → (result_over l x.result ≡ false) × (t ≡ to_write (plain x.result) x.steps)
result_out_passed l x t e = go (result_over l x.result) refl
  where
    go : (b : Bool) → result_over l x.result ≡ b → (result_over l x.result ≡ false) × (t ≡ to_write (plain x.result) x.steps)
    go true q = stopped_not_passed (sym (result_out_over l x q) ∙ e)
    go false q = (q, passed_same (sym e ∙ result_out_fits l x q))

pub result_fits : (l : Limits) (v : Value) → result_over l v ≡ false → (size v ≤ l.values) × (nesting v ≤ l.nesting)
result_fits l v e = (
  ltb_le _ _ (or_false_left (ltb l.values (size v)) (ltb l.nesting (nesting v)) e),
  ltb_le _ _ (or_false_right (ltb l.values (size v)) (ltb l.nesting (nesting v)) e),
)

pub fits_result : (l : Limits) (v : Value) → size v ≤ l.values → nesting v ≤ l.nesting → result_over l v ≡ false
fits_result l v a b = rw (le-ltb _ _ a, le-ltb _ _ b) refl

module _ (published lent : List ℕ) (l : Limits) where
  abbrev plained : Bytes → Judged TextOut
  plained document = prelude l published lent (plain_judged read_json l document)

  plained_positive : (document : Bytes) → Positive (plained document)
  plained_positive document =
      prelude_positive l published lent (plain_judged read_json l document) (plain_positive read_json l (numbered_json l) document)

  plain_passed : (document : Bytes) (o : TextOut) → plained document ≡ passed o
      → (v : Value) × (read_json l document ≡ ok v) × (o ≡ to_write (plain v) 0)
  unfolding plain_judged
  plain_passed document o e =
      let (d, w, f) = prelude_passed l published lent (plain_judged read_json l document) o e in
      let (v, g, h) = bind_passed (judge_text 1 l read_json document) _ o f in
      (v, (text_passed 1 l read_json document v g).1, sym (passed_same h))

  pub plain_operation_reads_back
      : (document output : Bytes) → (plain_operation read_json published lent l document output).answer.number ≡ 0
      → (v : Value) × (read_json l document ≡ ok v)
      × (read_json l (take (plain_operation read_json published lent l document output).answer.length
      (plain_operation read_json published lent l document output).output)
      ≡ ok v)
  unfolding plain_operation
  plain_operation_reads_back document output e =
      let (o, p, room) = finish_zero output (plained document) (plained_positive document) e in
      let (v, f, g) = plain_passed document o p in (
        v,
        f,
        ap (λ (z : Bytes). read_json l z)
            ((front output o _ (finish_written output o p room)).1 ∙ ap (λ (z : TextOut). z.bytes) g)
            ∙ plain_idempotent l document v f,
      )

  abbrev runned : Bytes → Bytes → Judged TextOut
  runned reader document = prelude l published lent (run_judged read_json l reader document)

  runned_positive : (reader document : Bytes) → Positive (runned reader document)
  runned_positive reader document =
      prelude_positive l published lent (run_judged read_json l reader document) (run_positive read_json l (numbered_json l) reader document)

  -- why a run gave 0
  record Gave (reader document : Bytes) (o : TextOut) (r : Result) (v : Value) (x : Ran Value) : Type 0 where
    pub reads_reader : read_reader l reader ≡ ok r
    pub reads_document : read_json l document ≡ ok v
    pub runs : run_reader r l v ≡ ok x
    pub fits : result_over l x.result ≡ false
    pub writes : o ≡ to_write (plain x.result) x.steps

  run_passed
      : (reader document : Bytes) (o : TextOut) → runned reader document ≡ passed o
      → (r : Result) × (v : Value) × (x : Ran Value) × Gave reader document o r v x
  unfolding run_judged
  run_passed reader document o e =
      let (d, w, f) = prelude_passed l published lent (run_judged read_json l reader document) o e in
      let (r, v, p, k) = both_passed l read_reader reader read_json document _ o f in
      let (x, g, h) = bind_passed (in_text 1 (run_reader r l v)) _ o k in
      let (a, b) = result_out_passed l x o h in (
        r,
        v,
        x,
        record {
          reads_reader = p.first_read;
          reads_document = p.second_read;
          runs = in_text_passed 1 (run_reader r l v) x g;
          fits = a;
          writes = b;
        },
      )

  pub run_operation_reads_back
      : InRange l → (reader document output : Bytes) → (run_operation read_json published lent l reader document output).answer.number ≡ 0
      → (r : Result) × (v : Value) × (x : Ran Value) × (read_reader l reader ≡ ok r) × (read_json l document ≡ ok v) × (run_reader r l v ≡ ok x)
      × ((run_operation read_json published lent l reader document output).answer.steps ≡ x.steps)
      × (read_json l (take (run_operation read_json published lent l reader document output).answer.length
      (run_operation read_json published lent l reader document output).output)
      ≡ ok x.result)
  unfolding run_operation written
  run_operation_reads_back range reader document output e =
      let (o, p, room) = finish_zero output (runned reader document) (runned_positive reader document) e in
      let (r, v, x, g) = run_passed reader document o p in
      let fit = result_fits l x.result g.fits in
      let f = finish_written output o p room in (
        r,
        v,
        x,
        g.reads_reader,
        g.reads_document,
        g.runs,
        ap (λ (d : Done). d.answer.steps) f ∙ ap (λ (z : TextOut). z.steps) g.writes,
        ap (λ (z : Bytes). read_json l z) ((front output o _ f).1 ∙ ap (λ (z : TextOut). z.bytes) g.writes)
            ∙ result_reads_back l range reader document r v x g.reads_reader g.reads_document g.runs fit.0 fit.1,
      )

-- ---- every call keeps its output on a refusal

module _ (l : Limits) where
  pub plain_keeps
      : (source : Source) (document output buffer : Bytes) → ((plain_call source l document output buffer).number ≡ 0 → ⊥)
      → (plain_call source l document output buffer).output ≡ output
  unfolding plain_call call plain_operation
  plain_keeps source document output buffer h = refusal_keeps output _ h

  pub infer_keeps
      : (source : Source) (shape document output buffer : Bytes) → ((infer_call source l shape document output buffer).number ≡ 0 → ⊥)
      → (infer_call source l shape document output buffer).output ≡ output
  unfolding infer_call call infer_operation
  infer_keeps source first document output buffer h = refusal_keeps output _ h

  pub join_keeps
      : (first second output buffer : Bytes) → ((join_call l first second output buffer).number ≡ 0 → ⊥)
      → (join_call l first second output buffer).output ≡ output
  unfolding join_call call join_operation
  join_keeps first second output buffer h = refusal_keeps output _ h

  pub check_keeps
      : (reader shape output buffer : Bytes) → ((check_call l reader shape output buffer).number ≡ 0 → ⊥)
      → (check_call l reader shape output buffer).output ≡ output
  unfolding check_call call check_operation
  check_keeps reader second output buffer h = refusal_keeps output _ h

  pub run_keeps
      : (source : Source) (reader document output buffer : Bytes) → ((run_call source l reader document output buffer).number ≡ 0 → ⊥)
      → (run_call source l reader document output buffer).output ≡ output
  unfolding run_call call run_operation
  run_keeps source reader document output buffer h = refusal_keeps output _ h
