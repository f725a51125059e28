-- A reader that passes the check against a shape's text: what check wrote is the text of its result shape, and run on a
-- document that the shape admits ends as demand 3 says. Assumes nothing.
use Rattle.std.specs.Prelude.{ℕ, ◌≤◌, ◌≡◌, Bool, List, ltb, length, take}
use Rattle.std.proofs.Math.Path.{refl, ap, subst}
use Rattle.std.proofs.Common.{sym, ◌∙◌}
use Rattle.std.proofs.Math.Bool.{true, false}
use Rattle.definitions.specs.declared.Limits.{Limits}
use Rattle.definitions.specs.Limits.{in_range}
use Rattle.definitions.specs.Bytes.{Bytes}
use Rattle.definitions.specs.Outcome.{Outcome, ok, refused}
use Rattle.definitions.specs.Value.{Value}
use Rattle.definitions.specs.Plain.{plain}
use Rattle.definitions.specs.Shape.{Shape, ascending}
use Rattle.definitions.specs.Admits.{admits}
use Rattle.definitions.specs.ShapeText.{read_shape, write_shape}
use Rattle.definitions.specs.Reader.{Result, read_reader}
use Rattle.definitions.specs.Checking.{check_reader}
use Rattle.definitions.specs.Running.{Ran, run_reader}
use Rattle.definitions.specs.Operations.{Done, Source, Judged, passed, ◌>>=◌, refusal, written, in_text, slices_short, prelude, TextOut}
use Rattle.definitions.specs.Operations.{to_write, result_out, deliver, finish, check_judged, run_judged, check_operation, run_operation}
use Rattle.laws.specs.Good.{GoodShape}
use Rattle.laws.specs.Readers.{Safe}
use Rattle.laws.proofs.Soundness.{sound}
use Rattle.laws.specs.SoundShapes.{check_ascending}
use Rattle.laws.proofs.ReaderFacts.{reader_scoped, reader_proper}
use Rattle.laws.proofs.RoundLaws.{reader_read_good, check_good, shape_reads_back}
use Rattle.laws.specs.Tests.{ltb_lt, ltb_le}
use Rattle.laws.specs.Judging.{Positive, prelude_positive}
use Rattle.laws.specs.Judging.{bind_passed, bind_of}
use Rattle.laws.specs.Judging.{prelude_short, prelude_long, prelude_passed, both_read, both_passed, in_text_passed, shape_over}
use Rattle.laws.specs.Judging.{shape_out_passed}
use Rattle.laws.specs.Judging.{shape_fits, result_over, result_out_over, result_out_fits, deliver_short, deliver_room, finish_zero}
use Rattle.laws.specs.Judging.{finish_written, front}
use Rattle.laws.proofs.Positives.{check_positive}
use Rattle.laws.specs.Chain.{Reads, Ends, gives, short_work, out_of_steps, too_large, no_room, Passes, ProperSource}
use Rattle.laws.proofs.ChainReached.{Stands, stands_reads, ok_same}

module _ (published lent : List ℕ) (l : Limits) where
  -- ---- check

  -- what is judged of a check before its output
  abbrev checked : Bytes → Bytes → Judged TextOut
  checked reader text = prelude l published lent (check_judged l reader text)

  checked_positive : (reader text : Bytes) → Positive (checked reader text)
  checked_positive reader text = prelude_positive l published lent (check_judged l reader text) (check_positive l reader text)

  -- why a check gave 0
  pub record Passed (reader text output : Bytes) (r : Result) (s u : Shape) : Type 0 where
    pub range : in_range l ≡ true
    pub work : slices_short published lent ≡ false
    pub short_reader : length reader ≤ l.bytes
    pub reads_reader : read_reader l reader ≡ ok r
    pub reads_shape : read_shape l text ≡ ok s
    pub checks : check_reader r s ≡ ok u
    pub fits : shape_over l u ≡ false
    pub answer : (check_operation published lent l reader text output).answer ≡ written (length (write_shape u)) 0 false
    pub wrote
        : take (check_operation published lent l reader text output).answer.length (check_operation published lent l reader text output).output
        ≡ write_shape u

  checked_passed
      : (reader text output : Bytes) (o : TextOut) → checked reader text ≡ passed o → length o.bytes ≤ length output
      → (r : Result) × (s : Shape) × (u : Shape) × Passed reader text output r s u
  unfolding check_operation check_judged
  checked_passed reader text output o e room =
      let (d, w, f) = prelude_passed l published lent (check_judged l reader text) o e in
      let (r, s, p, k) = both_passed l read_reader reader read_shape text _ o f in
      let (u, g, h) = bind_passed (in_text 1 (check_reader r s)) _ o k in
      let (x, y) = shape_out_passed l u o h in (
        r,
        s,
        u,
        record {
          range = d;
          work = w;
          short_reader = p.first_short;
          reads_reader = p.first_read;
          reads_shape = p.second_read;
          checks = in_text_passed 1 (check_reader r s) u g;
          fits = x;
          answer =
              ap (λ (d : Done). d.answer) (finish_written output o e room)
              ∙ ap (λ (t : TextOut). written (length t.bytes) t.steps t.told) y;
          wrote =
              (front output o (check_operation published lent l reader text output) (finish_written output o e room)).1
              ∙ ap (λ (t : TextOut). t.bytes) y;
        },
      )

  pub check_passed
      : (reader text output : Bytes) → (check_operation published lent l reader text output).answer.number ≡ 0
      → (r : Result) × (s : Shape) × (u : Shape) × Passed reader text output r s u
  unfolding check_operation
  check_passed reader text output e =
      let f = finish_zero output (checked reader text) (checked_positive reader text) e in
      checked_passed reader text output f.0 f.1 f.2

-- ---- run

module _ (source : Source) (published lent : List ℕ) (l : Limits) where
  -- what is judged of a run before its output
  abbrev ran : Bytes → Bytes → Judged TextOut
  ran reader document = prelude l published lent (run_judged source l reader document)

  -- what both texts come to
  abbrev run_then : Result → Value → Judged TextOut
  run_then r v = in_text 1 (run_reader r l v) >>= λ x. result_out l x

  run_is : (reader document output : Bytes) → run_operation source published lent l reader document output ≡ finish output (ran reader document)
  unfolding run_operation
  run_is reader document output = refl

  module _
      (reader document output : Bytes) (r : Result) (v : Value) (u : Shape) (short_reader : length reader ≤ l.bytes)
      (reads_reader : read_reader l reader ≡ ok r) (reads : Reads source l document v) (range : in_range l ≡ true)
    where
      abbrev End : Done → Type 0
      End = Ends published lent l r v u output

      -- where the work slices are long enough, run comes to what running the reader comes to
      ran_runs : slices_short published lent ≡ false → ran reader document ≡ run_then r v
      unfolding run_judged
      ran_runs e =
          prelude_long l published lent (run_judged source l reader document) range e
          ∙ bind_of _
          (both_read l read_reader reader source document r v short_reader reads_reader reads.short_enough reads.value)

      module _ (long : slices_short published lent ≡ false) where
        ends_delivered
            : (x : Ran Value) → run_reader r l v ≡ ok x → admits u x.result ≡ true → result_over l x.result ≡ false
            → End (deliver output (to_write (plain x.result) x.steps))
        ends_delivered x e a f = go (ltb (length output) (length (plain x.result))) refl
          where
            o : TextOut
            o = to_write (plain x.result) x.steps

            go : (b : Bool) → ltb (length output) (length (plain x.result)) ≡ b → End (deliver output o)
            go true q = subst End (sym (deliver_short output o q)) (no_room x long e f (ltb_lt _ _ q))
            go false q = subst End (sym (deliver_room output o q)) (gives x long e a f (ltb_le _ _ q))

        ends_result : (x : Ran Value) → run_reader r l v ≡ ok x → admits u x.result ≡ true → End (finish output (result_out l x))
        unfolding finish
        ends_result x e a = go (result_over l x.result) refl
          where
            go : (b : Bool) → result_over l x.result ≡ b → End (finish output (result_out l x))
            go true q = subst (λ (m : Judged TextOut). End (finish output m)) (sym (result_out_over l x q)) (too_large x long e q)
            go false q = subst (λ (m : Judged TextOut). End (finish output m)) (sym (result_out_fits l x q)) (ends_delivered x e a q)

        ends_run
            : (o : Outcome ℕ (Ran Value)) → run_reader r l v ≡ o → Safe u o → End (finish output (in_text 1 o >>= λ x. result_out l x))
        unfolding finish in_text ◌>>=◌
        ends_run (ok x) e h = ends_result x e h.0
        ends_run (refused n p) e h =
            subst (λ (k : ℕ). End (record { answer = refusal k 1 p; output = output })) (sym h)
            (out_of_steps p long (subst (λ (k : ℕ). run_reader r l v ≡ refused k p) h e))

      pub run_ends : Safe u (run_reader r l v) → End (run_operation source published lent l reader document output)
      unfolding finish in_text ◌>>=◌
      run_ends h = subst End (sym (run_is reader document output)) (go (slices_short published lent) refl)
        where
          go : (b : Bool) → slices_short published lent ≡ b → End (finish output (ran reader document))
          go true q =
              subst (λ (m : Judged TextOut). End (finish output m))
              (sym (prelude_short l published lent (run_judged source l reader document) range q))
              (short_work q)
          go false q = subst (λ (m : Judged TextOut). End (finish output m)) (sym (ran_runs q)) (ends_run q (run_reader r l v) refl h)

-- ---- both

-- a reader that passes against the text of a shape
pub passes
    : (source : Source) → ProperSource source → (for_check for_run : List ℕ) (l : Limits) (text : Bytes) (s : Shape) → Stands l text s
    → (reader output : Bytes) (lent : List ℕ) → (check_operation for_check lent l reader text output).answer.number ≡ 0
    → Passes source for_check for_run l s reader lent output text
passes source proper for_check for_run l text s h reader output lent e =
    let p = check_passed for_check lent l reader text output e in
    go p.0 p.2 (subst (λ (x : Shape). Passed for_check lent l reader text output p.0 x p.2) (ok_same p.3.reads_shape (stands_reads h)) p.3)
  where
    go : (r : Result) (u : Shape) → Passed for_check lent l reader text output r s u → Passes source for_check for_run l s reader lent output text
    go r u p =
        let f = shape_fits l u p.fits in
        let a : ascending u ≡ true = check_ascending r s u h.sorted p.checks in
        let g : GoodShape u = check_good r s u (reader_read_good l reader r p.reads_reader) h.good p.checks in
        record {
          result = u;
          wrote = ap (λ (t : Bytes). read_shape l t) p.wrote ∙ shape_reads_back l u g a f.0 f.1;
          form = r;
          reads = p.reads_reader;
          ends =
              λ document output' lent' v d m.
              run_ends source for_run lent' l reader document output' r v u p.short_reader p.reads_reader d p.range
              (sound r l s v u h.sorted (proper.names_once l document v d.value) (reader_scoped l reader r p.reads_reader)
              (reader_proper l reader r p.reads_reader) p.checks m);
        }
