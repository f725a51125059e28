-- What infer, join and check write reads back as the shape that the definitions compute; and a refusal keeps the output.
-- Assumes nothing.
use Rattle.std.specs.Prelude.{ℕ, ◌≤◌, ◌≡◌, refl, Bool, true, false, List, ltb, take}
use Rattle.std.proofs.Common.{sym, ◌∙◌}
use Rattle.std.proofs.Math.Path.{ap}
use Rattle.std.proofs.Math.ListN.{length}
use Rattle.definitions.specs.declared.Limits.{Limits}
use Rattle.definitions.specs.Bytes.{Bytes}
use Rattle.definitions.specs.Outcome.{ok}
use Rattle.definitions.specs.Value.{Value}
use Rattle.definitions.specs.Shape.{Shape, ascending}
use Rattle.definitions.specs.Join.{join, shape_of}
use Rattle.definitions.specs.ShapeText.{read_shape, write_shape}
use Rattle.definitions.specs.Reader.{Result, read_reader}
use Rattle.definitions.specs.Checking.{check_reader}
use Rattle.definitions.specs.Operations.{Done, Source, Judged, passed, stopped, written, prelude, TextOut, deliver}
use Rattle.definitions.specs.Operations.{finish, join_judged, infer_operation, join_operation, check_operation}
use Rattle.laws.specs.Good.{GoodShape}
use Rattle.laws.specs.JoinLaws.{join_ascending, shape_of_ascending}
use Rattle.laws.specs.SoundShapes.{check_ascending}
use Rattle.laws.proofs.ShapeForms.{shape_ascending}
use Rattle.laws.proofs.RoundLaws.{shape_reads_back, shape_read_good, join_good, check_good, reader_read_good}
use Rattle.laws.specs.Judging.{Positive, prelude_positive, prelude_passed, both_passed}
use Rattle.laws.specs.Judging.{shape_over, shape_out_passed, shape_fits, deliver_short, deliver_room, finish_zero, finish_written, front}
use Rattle.laws.specs.Tests.{eq-eqb}
use Rattle.laws.proofs.Positives.{join_positive}
use Rattle.laws.specs.Chain.{Call, infers, takes, ProperSource}
use Rattle.laws.proofs.ChainSteps.{Accepted, accepted_left, taken_accepted, left_taken}
use Rattle.laws.proofs.ChainReaders.{Passed, check_passed}

-- ---- a refusal keeps the output

-- whatever is judged: unless the number is 0, the output is as it was
pub refusal_keeps : (output : Bytes) (j : Judged TextOut) → ((finish output j).answer.number ≡ 0 → ⊥) → (finish output j).output ≡ output
unfolding finish written
refusal_keeps output (stopped r) h = refl
refusal_keeps output (passed t) h = go (ltb (length output) (length t.bytes)) refl
  where
    go : (b : Bool) → ltb (length output) (length t.bytes) ≡ b → (deliver output t).output ≡ output
    go true q = ap (λ (d : Done). d.output) (deliver_short output t q)
    go false q = absurd (h (ap (λ (d : Done). d.answer.number) (deliver_room output t q)))

-- ---- what is written reads back

-- a shape of the paper within the limits
written_reads : (l : Limits) (s : Shape) → ascending s ≡ true → GoodShape s → shape_over l s ≡ false → read_shape l (write_shape s) ≡ ok s
written_reads l s a g f = let (n, d, b) = shape_fits l s f in shape_reads_back l s g a n d

pub infer_reads_back
    : (source : Source) → ProperSource source → (published lent : List ℕ) (l : Limits) (shape document output : Bytes)
    → (infer_operation source published lent l shape document output).answer.number ≡ 0
    → (s : Shape) × (v : Value) × (read_shape l shape ≡ ok s) × (source l document ≡ ok v)
    × (read_shape l (take (infer_operation source published lent l shape document output).answer.length
    (infer_operation source published lent l shape document output).output)
    ≡ ok (join s (shape_of v)))
unfolding infers takes
infer_reads_back source proper published lent l shape document output e =
    let c : Call = record { sample = document; output = output; lent = lent } in
    let t : takes source published l c shape ≡ true = eq-eqb e in
    go c t (taken_accepted source published l proper c shape t)
  where
    go : (c : Call) → takes source published l c shape ≡ true → ((s : Shape) × (v : Value) × Accepted source published l c shape s v)
        → (s : Shape) × (v : Value) × (read_shape l shape ≡ ok s) × (source l c.sample ≡ ok v)
        × (read_shape l (take (infers source published l c shape).answer.length (infers source published l c shape).output) ≡ ok (join s (shape_of v)))
    go c t (s, v, a) = (
      s,
      v,
      a.reads_shape,
      a.reads_sample.value,
      ap (λ (x : Bytes). read_shape l x)
          (sym (left_taken source published l c shape t) ∙ (accepted_left source published l c shape s v a).1)
          ∙ written_reads l (join s (shape_of v))
          (join_ascending s (shape_of v) (shape_ascending l shape s a.reads_shape) (shape_of_ascending v))
          (join_good s (shape_of v) (shape_read_good l shape s a.reads_shape) (proper.names_in_utf8 l c.sample v a.reads_sample.value))
          a.fits,
    )

module _ (published lent : List ℕ) (l : Limits) where
  -- what is judged of a join before its output
  abbrev joined : Bytes → Bytes → Judged TextOut
  joined first second = prelude l published lent (join_judged l first second)

  joined_positive : (first second : Bytes) → Positive (joined first second)
  joined_positive first second = prelude_positive l published lent (join_judged l first second) (join_positive l first second)

  pub join_reads_back
      : (first second output : Bytes) → (join_operation published lent l first second output).answer.number ≡ 0
      → (s : Shape) × (t : Shape) × (read_shape l first ≡ ok s) × (read_shape l second ≡ ok t)
      × (read_shape l (take (join_operation published lent l first second output).answer.length (join_operation published lent l first second output).output)
      ≡ ok (join s t))
  unfolding join_operation join_judged
  join_reads_back first second output e =
      let (o, p, room) = finish_zero output (joined first second) (joined_positive first second) e in
      go o p room
    where
      go
          : (o : TextOut) → joined first second ≡ passed o → length o.bytes ≤ length output
          → (s : Shape) × (t : Shape) × (read_shape l first ≡ ok s) × (read_shape l second ≡ ok t)
          × (read_shape l (take (finish output (joined first second)).answer.length (finish output (joined first second)).output) ≡ ok (join s t))
      go o p room =
          let (d, w, f) = prelude_passed l published lent (join_judged l first second) o p in
          let (s, t, b, g) = both_passed l read_shape first read_shape second _ o f in
          let (x, y) = shape_out_passed l (join s t) o g in
          let r = b.first_read in
          let q = b.second_read in (
            s,
            t,
            r,
            q,
            ap (λ (z : Bytes). read_shape l z)
                ((front output o (finish output (joined first second)) (finish_written output o p room)).1 ∙ ap (λ (z : TextOut). z.bytes) y)
                ∙ written_reads l (join s t) (join_ascending s t (shape_ascending l first s r) (shape_ascending l second t q))
                (join_good s t (shape_read_good l first s r) (shape_read_good l second t q)) x,
          )

  -- the text that a check wrote is that of its result shape
  pub passed_reads
      : {reader shape output : Bytes} {r : Result} {s u : Shape} → Passed published lent l reader shape output r s u
      → read_shape l
      (take (check_operation published lent l reader shape output).answer.length (check_operation published lent l reader shape output).output)
      ≡ ok u
  passed_reads {reader} {shape} {r = r} {s} {u} p =
      ap (λ (z : Bytes). read_shape l z) p.wrote
      ∙ written_reads l u (check_ascending r s u (shape_ascending l shape s p.reads_shape) p.checks)
      (check_good r s u (reader_read_good l reader r p.reads_reader) (shape_read_good l shape s p.reads_shape) p.checks)
      p.fits

  pub check_reads_back
      : (reader shape output : Bytes) → (check_operation published lent l reader shape output).answer.number ≡ 0
      → (r : Result) × (s : Shape) × (u : Shape) × (read_reader l reader ≡ ok r) × (read_shape l shape ≡ ok s) × (check_reader r s ≡ ok u)
      × (read_shape l
      (take (check_operation published lent l reader shape output).answer.length (check_operation published lent l reader shape output).output)
      ≡ ok u)
  check_reads_back reader shape output e =
      let (r, s, u, p) = check_passed published lent l reader shape output e in
      (r, s, u, p.reads_reader, p.reads_shape, p.checks, passed_reads p)
