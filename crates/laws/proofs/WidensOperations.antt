-- Request Q-13 over operations: of two shape texts, the first below the second, what checks of one reader write is ordered too,
-- and a check that is lost by the second is 9 or 11. Assumes nothing.
use Prim.Native.Nat.{ℕ, ◌≤◌, ◌<◌}
use Rattle.std.proofs.Common.{arith, sym, ◌∙◌}
use Rattle.std.specs.Prelude.{◌≡◌, Bool, List, ltb}
use Rattle.std.proofs.Math.Path.{refl, ap, subst}
use Rattle.std.proofs.Math.Bool.{true, false}
use Rattle.std.proofs.Math.ListN.{length}
use Rattle.definitions.specs.declared.Limits.{Limits}
use Rattle.definitions.specs.declared.Answer.{Answer}
use Rattle.definitions.specs.Limits.{in_range}
use Rattle.definitions.specs.Bytes.{Bytes}
use Rattle.definitions.specs.Outcome.{Outcome, ok, refused}
use Rattle.definitions.specs.Shape.{Shape, ascending}
use Rattle.definitions.specs.Order.{below}
use Rattle.definitions.specs.ShapeText.{read_shape, write_shape}
use Rattle.definitions.specs.Reader.{Result, read_reader}
use Rattle.definitions.specs.Checking.{check_reader}
use Rattle.definitions.specs.Operations.{Done, Judged, passed, ◌>>=◌, refusal, output_short, written, said, in_text, slices_short, prelude}
use Rattle.definitions.specs.Operations.{TextOut, to_write, shape_out, deliver, finish, say, below_judged, check_judged, below_operation, check_operation}
use Rattle.laws.specs.Tests.{ltb_lt}
use Rattle.laws.proofs.ShapeForms.{shape_ascending}
use Rattle.laws.specs.Judging.{prelude_positive, prelude_short, prelude_long, prelude_passed, both_read, both_passed, passed_same, bind_of}
use Rattle.laws.specs.Judging.{shape_over, shape_out_over, shape_out_fits, shape_fits, deliver_short, deliver_room, say_zero}
use Rattle.laws.proofs.Positives.{below_positive}
use Rattle.laws.proofs.ChainReached.{ok_same}
use Rattle.laws.proofs.ChainReaders.{Passed, check_passed}
use Rattle.laws.proofs.WrittenShapes.{passed_reads}
use Rattle.laws.specs.Statements.{wrote}
use Rattle.laws.specs.NewSamples.{SaysBelow, NumberAbove, passes, kind_not_wanted, too_large, short_slices, short_output}
use Rattle.laws.specs.Widens.{check_widens, check_lost}

-- ---- two texts, the first of a shape below that of the second

pub record Ordered (l : Limits) (first second : Bytes) : Type 0 where
  pub lower : Shape
  pub upper : Shape
  pub reads_lower : read_shape l first ≡ ok lower
  pub short_lower : length first ≤ l.bytes
  pub reads_upper : read_shape l second ≡ ok upper
  pub short_upper : length second ≤ l.bytes
  pub order : below lower upper ≡ true

pub ordered_as
    : {l : Limits} {first second first' second' : Bytes} → first ≡ first' → second ≡ second' → Ordered l first second → Ordered l first' second'
ordered_as {l} {first} {second} {first'} e f o =
    subst (λ (t : Bytes). Ordered l first' t) f (subst (λ (t : Bytes). Ordered l t second) e o)

-- a reader that passes against the lower, against the higher
module _ {l : Limits} {first second : Bytes} (o : Ordered l first second) (r : Result) (u : Shape) (e : check_reader r o.lower ≡ ok u) where
  sorted : (ascending o.lower ≡ true) × (ascending o.upper ≡ true)
  sorted = (shape_ascending l first _ o.reads_lower, shape_ascending l second _ o.reads_upper)

  ordered_widens : (w : Shape) → check_reader r o.upper ≡ ok w → below u w ≡ true
  ordered_widens w f = check_widens r _ _ u sorted.0 sorted.1 o.order e w f

  ordered_lost : (n p : ℕ) → check_reader r o.upper ≡ refused n p → n ≡ 9
  ordered_lost n p f = check_lost r _ _ u sorted.0 sorted.1 o.order e n p f

module _ (published lent : List ℕ) (l : Limits) (first second : Bytes) where
  -- what is judged of them before the answer
  abbrev pub judged : Judged Bool
  judged = prelude l published lent (below_judged l first second)

  -- yes is said of ordered texts ..
  pub said_below : in_range l ≡ true → slices_short published lent ≡ false → Ordered l first second → SaysBelow published lent l first second
  unfolding below_operation below_judged say
  said_below range long o =
      ap say
      (prelude_long l published lent (below_judged l first second) range long
      ∙ bind_of _ (both_read l read_shape first read_shape second _ _ o.short_lower o.reads_lower o.short_upper o.reads_upper)
      ∙ ap passed o.order)

  -- .. and of no others
  pub passed_ordered : judged ≡ passed true → Ordered l first second
  unfolding below_judged
  passed_ordered e =
      let (r, w, f) = prelude_passed l published lent (below_judged l first second) true e in
      let (s, t, b, g) = both_passed l read_shape first read_shape second _ true f in
      record {
        lower = s;
        upper = t;
        reads_lower = b.first_read;
        short_lower = b.first_short;
        reads_upper = b.second_read;
        short_upper = b.second_short;
        order = passed_same g;
      }

  pub judged_said : (below_operation published lent l first second).number ≡ 0 → (y : Bool) × (judged ≡ passed y)
  unfolding below_operation
  judged_said e = say_zero judged (prelude_positive l published lent (below_judged l first second) (below_positive l first second)) e

  pub answer_of : {y : Bool} → judged ≡ passed y → below_operation published lent l first second ≡ said y
  unfolding below_operation say
  answer_of e = ap say e

  pub says_ordered : SaysBelow published lent l first second → Ordered l first second
  unfolding said
  says_ordered h =
      let (y, e) = judged_said (ap (λ (a : Answer). a.number) h) in
      let told : y ≡ true = ap (λ (a : Answer). a.yes) (sym (answer_of e) ∙ h) in
      passed_ordered (e ∙ ap passed told)

-- ---- what two checks write

module _ (for_check : List ℕ) (l : Limits) (reader : Bytes) where
  -- a check with these slices
  abbrev pub checked : (text output : Bytes) (lent : List ℕ) → Done
  checked text output lent = check_operation for_check lent l reader text output

  -- what it wrote is short enough to be read
  wrote_short
      : {text output : Bytes} {lent : List ℕ} {r : Result} {s u : Shape} → Passed for_check lent l reader text output r s u
      → length (wrote (checked text output lent)) ≤ l.bytes
  wrote_short {u = u} p = subst (λ (t : Bytes). length t ≤ l.bytes) (sym p.wrote) (shape_fits l u p.fits).2

  module _ {first second : Bytes} (o : Ordered l first second) (output : Bytes) (lent : List ℕ) where
    -- a check that passed is of the shape that is ordered
    record PassedBelow : Type 0 where
      form : Result
      result : Shape
      passed : Passed for_check lent l reader first output form o.lower result

    passed_below : (check_operation for_check lent l reader first output).answer.number ≡ 0 → PassedBelow
    passed_below e =
        let (r, s, u, p) = check_passed for_check lent l reader first output e in
        record {
          form = r;
          result = u;
          passed =
              subst (λ (x : Shape). Passed for_check lent l reader first output r x u) (ok_same p.reads_shape o.reads_lower) p;
        }

  module _ {first second : Bytes} (o : Ordered l first second) (output output' : Bytes) (lent lent' : List ℕ) where
    written_ordered
        : {r r' : Result} {t u w : Shape} → Passed for_check lent l reader first output r o.lower u
        → Passed for_check lent' l reader second output' r' t w → Ordered l (wrote (checked first output lent)) (wrote (checked second output' lent'))
    written_ordered {r} {r'} {t} {u} {w} p q =
        record {
          lower = u;
          upper = w;
          reads_lower = passed_reads for_check lent l p;
          short_lower = wrote_short p;
          reads_upper = passed_reads for_check lent' l q;
          short_upper = wrote_short q;
          order =
              ordered_widens o r u p.checks w
              (subst (λ (x : Shape). check_reader r x ≡ ok w) (ok_same q.reads_shape o.reads_upper)
              (subst (λ (x : Result). check_reader x t ≡ ok w) (ok_same q.reads_reader p.reads_reader) q.checks));
        }

    pub checks_ordered
        : (check_operation for_check lent l reader first output).answer.number ≡ 0
        → (check_operation for_check lent' l reader second output').answer.number ≡ 0
        → (in_range l ≡ true) × Ordered l (wrote (checked first output lent)) (wrote (checked second output' lent'))
    checks_ordered e f =
        let p = passed_below o output lent e in
        let (r, t, w, q) = check_passed for_check lent' l reader second output' f in (q.range, written_ordered p.passed q)

    -- and `below` says so
    pub checks_say
        : (check_operation for_check lent l reader first output).answer.number ≡ 0
        → (check_operation for_check lent' l reader second output').answer.number ≡ 0
        → (published again : List ℕ) → slices_short published again ≡ false
        → SaysBelow published again l (wrote (checked first output lent)) (wrote (checked second output' lent'))
    checks_say e f published again long = let (range, w) = checks_ordered e f in said_below published again l _ _ range long w

    -- ---- a check that may be lost

    abbrev Above : Judged TextOut → Type 0
    Above m = NumberAbove (slices_short for_check lent') l output' (finish output' m).answer.number

    module _ (r : Result) (u : Shape) (p : Passed for_check lent l reader first output r o.lower u) where
      -- the shape that came out is written, where there is room
      above_written : (w : Shape) → shape_over l w ≡ false → Above (passed (to_write (write_shape w) 0))
      unfolding finish written output_short
      above_written w fits = by (ltb (length output') (length (write_shape w))) refl
        where
          n : ℕ
          n = length (write_shape w)

          text : TextOut
          text = to_write (write_shape w) 0

          within : n ≤ l.bytes
          within = (shape_fits l w fits).2

          at_number : {d : Done} → deliver output' text ≡ d → NumberAbove (slices_short for_check lent') l output' d.answer.number
              → Above (passed text)
          at_number e h =
              subst (λ (d : Done). NumberAbove (slices_short for_check lent') l output' d.answer.number) (sym e) h

          by : (b : Bool) → ltb (length output') (length (write_shape w)) ≡ b → Above (passed text)
          by true e =
              let short : length output' < n = ltb_lt (length output') n e in
              at_number (deliver_short output' text e) (short_output (omega (arith, within)))
          by false e = at_number (deliver_room output' text e) passes

      above_out : (w : Shape) → Above (shape_out l w)
      unfolding finish refusal
      above_out w = by (shape_over l w) refl
        where
          by : (b : Bool) → shape_over l w ≡ b → Above (shape_out l w)
          by true e = subst Above (sym (shape_out_over l w e)) too_large
          by false e = subst Above (sym (shape_out_fits l w e)) (above_written w e)

      above_checked : (c : Outcome ℕ Shape) → check_reader r o.upper ≡ c → Above (in_text 1 c >>= λ w. shape_out l w)
      unfolding finish refusal in_text ◌>>=◌
      above_checked (ok w) e = above_out w
      above_checked (refused n q) e =
          subst (NumberAbove (slices_short for_check lent') l output') (sym (ordered_lost o r u p.checks n q e)) kind_not_wanted

      above_judged : Above (prelude l for_check lent' (check_judged l reader second))
      unfolding finish refusal check_judged
      above_judged = by (slices_short for_check lent') refl
        where
          by : (b : Bool) → slices_short for_check lent' ≡ b → Above (prelude l for_check lent' (check_judged l reader second))
          by true e = subst Above (sym (prelude_short l for_check lent' _ p.range e)) (short_slices e)
          by false e =
              subst Above
              (sym
              (prelude_long l for_check lent' _ p.range e
              ∙ bind_of _ (both_read l read_reader reader read_shape second r _ p.short_reader p.reads_reader o.short_upper o.reads_upper)))
              (above_checked (check_reader r o.upper) refl)

    pub check_above
        : (check_operation for_check lent l reader first output).answer.number ≡ 0
        → NumberAbove (slices_short for_check lent') l output' (check_operation for_check lent' l reader second output').answer.number
    unfolding check_operation
    check_above e = let p = passed_below o output lent e in above_judged p.form p.result p.passed
