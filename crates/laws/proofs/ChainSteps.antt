-- One infer call: exactly when it is accepted, and what it leaves. Assumes nothing.
use Rattle.std.specs.Prelude.{ℕ, ◌≤◌, ◌≡◌, false, List, ◌++◌, take, drop}
use Rattle.std.proofs.Common.{◌∙◌}
use Rattle.std.proofs.Math.Path.{subst}
use Rattle.std.proofs.Math.Bool.{true}
use Rattle.std.proofs.Math.ListN.{length}
use Rattle.definitions.specs.declared.Limits.{Limits}
use Rattle.definitions.specs.Limits.{in_range}
use Rattle.definitions.specs.Bytes.{Bytes}
use Rattle.definitions.specs.Outcome.{ok}
use Rattle.definitions.specs.Value.{Value}
use Rattle.definitions.specs.Shape.{Shape}
use Rattle.definitions.specs.Join.{join, shape_of}
use Rattle.definitions.specs.ShapeText.{read_shape, write_shape}
use Rattle.definitions.specs.Operations.{Source, Judged, passed, written, slices_short, prelude, TextOut, to_write, finish, infer_judged}
use Rattle.definitions.specs.Operations.{infer_operation}
use Rattle.laws.specs.Tests.{eqb_eq, eq-eqb}
use Rattle.laws.specs.Judging.{Positive, bind_of, prelude_positive, prelude_long}
use Rattle.laws.specs.Judging.{prelude_passed, both_read, both_passed, shape_over, shape_out_passed, shape_out_fits, finish_zero}
use Rattle.laws.specs.Judging.{finish_written, front}
use Rattle.laws.proofs.Positives.{source_numbered, infer_positive}
use Rattle.laws.specs.Chain.{Call, infers, takes, left_by, Reads, ProperSource}

module _ (source : Source) (published : List ℕ) (l : Limits) where
  -- what is judged of a call before its output
  abbrev judged : Call → Bytes → Judged TextOut
  judged c t = prelude l published c.lent (infer_judged source l t c.sample)

  -- why a call was accepted: shape text and sample were read, and the join fits the limits and the output
  pub record Accepted (c : Call) (t : Bytes) (s : Shape) (v : Value) : Type 0 where
    pub range : in_range l ≡ true
    pub work : slices_short published c.lent ≡ false
    pub short_text : length t ≤ l.bytes
    pub reads_shape : read_shape l t ≡ ok s
    pub reads_sample : Reads source l c.sample v
    pub fits : shape_over l (join s (shape_of v)) ≡ false
    pub room : length (write_shape (join s (shape_of v))) ≤ length c.output

  pub left_taken
      : (c : Call) (t : Bytes) → takes source published l c t ≡ true
      → left_by source published l c t ≡ take (infers source published l c t).answer.length (infers source published l c t).output
  unfolding left_by
  left_taken c t e = rw (e, left_by)

  judged_accepted : (c : Call) (t : Bytes) (s : Shape) (v : Value) → Accepted c t s v
      → judged c t ≡ passed (to_write (write_shape (join s (shape_of v))) 0)
  unfolding infer_judged
  judged_accepted c t s v a =
      prelude_long l published c.lent (infer_judged source l t c.sample) a.range a.work
      ∙ bind_of _
      (both_read l read_shape t source c.sample s v a.short_text a.reads_shape a.reads_sample.short_enough
      a.reads_sample.value)
      ∙ shape_out_fits l (join s (shape_of v)) a.fits

  -- the answer and the output of an accepted call
  pub infers_written
      : (c : Call) (t : Bytes) (s : Shape) (v : Value) → Accepted c t s v
      → infers source published l c t
      ≡ record {
        answer = written (length (write_shape (join s (shape_of v)))) 0 false;
        output = write_shape (join s (shape_of v)) ++ drop (length (write_shape (join s (shape_of v)))) c.output;
      }
  unfolding infers infer_operation
  infers_written c t s v a =
      finish_written c.output (to_write (write_shape (join s (shape_of v))) 0) (judged_accepted c t s v a) a.room

  infers_accepted
      : (c : Call) (t : Bytes) (s : Shape) (v : Value) → Accepted c t s v
      → ((infers source published l c t).answer.number ≡ 0)
      × (take (infers source published l c t).answer.length (infers source published l c t).output ≡ write_shape (join s (shape_of v)))
  infers_accepted c t s v a =
      front c.output (to_write (write_shape (join s (shape_of v))) 0) (infers source published l c t) (infers_written c t s v a)

  -- an accepted call leaves the text of the join
  pub accepted_left
      : (c : Call) (t : Bytes) (s : Shape) (v : Value) → Accepted c t s v
      → (takes source published l c t ≡ true) × (left_by source published l c t ≡ write_shape (join s (shape_of v)))
  unfolding takes
  accepted_left c t s v a = (yes_taken, left_taken c t yes_taken ∙ (infers_accepted c t s v a).1)
    where
      yes_taken : takes source published l c t ≡ true
      yes_taken = eq-eqb (infers_accepted c t s v a).0

  -- a call that is not accepted leaves the text as it was
  pub refused_left : (c : Call) (t : Bytes) → takes source published l c t ≡ false → left_by source published l c t ≡ t
  unfolding left_by
  refused_left c t e = rw (e, left_by)

  passed_accepted
      : (c : Call) (t : Bytes) (o : TextOut) → judged c t ≡ passed o → length o.bytes ≤ length c.output
      → (s : Shape) × (v : Value) × Accepted c t s v
  unfolding infer_judged
  passed_accepted c t o e room =
      let (r, w, f) = prelude_passed l published c.lent (infer_judged source l t c.sample) o e in
      let (s, v, p, g) = both_passed l read_shape t source c.sample _ o f in
      let (x, y) = shape_out_passed l (join s (shape_of v)) o g in (
        s,
        v,
        record {
          range = r;
          work = w;
          short_text = p.first_short;
          reads_shape = p.first_read;
          reads_sample = record { short_enough = p.second_short; value = p.second_read };
          fits = x;
          room = subst (λ (o : TextOut). length o.bytes ≤ length c.output) y room;
        },
      )

  judged_positive : ProperSource source → (c : Call) (t : Bytes) → Positive (judged c t)
  judged_positive proper c t =
      prelude_positive l published c.lent (infer_judged source l t c.sample) (infer_positive source l (source_numbered proper l) t c.sample)

  infers_number : (c : Call) (t : Bytes) → (infers source published l c t).answer.number ≡ 0 → (finish c.output (judged c t)).answer.number ≡ 0
  unfolding infers infer_operation
  infers_number c t e = e

  -- a call whose number is 0 was accepted for these reasons
  pub taken_accepted
      : ProperSource source → (c : Call) (t : Bytes)
      → takes source published l c t ≡ true → (s : Shape) × (v : Value) × Accepted c t s v
  unfolding takes
  taken_accepted proper c t e =
      let f = finish_zero c.output (judged c t) (judged_positive proper c t) (infers_number c t (eqb_eq e)) in
      passed_accepted c t f.0 f.1 f.2
