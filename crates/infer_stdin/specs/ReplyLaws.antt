-- What the reply to a document is, case by case. The cases are all there are: no document is refused for the program's
-- shape text, its work slices or its output. Assumes nothing.
use Rattle.std.specs.Prelude.{ℕ, ◌≤◌, ◌<◌, ◌≡◌, refl, true, false, length, take}
use Rattle.std.proofs.Common.{arith, ◌∙◌, eq-eqb, ne_eqb}
use Rattle.std.proofs.Math.Path.{ap}
use Rattle.std.proofs.Math.ListN.{replicate, length-replicate}
use Rattle.definitions.specs.declared.Answer.{Answer}
use Rattle.definitions.specs.Bytes.{Bytes, bytes}
use Rattle.definitions.specs.Limits.{standard}
use Rattle.definitions.specs.Outcome.{ok, refused}
use Rattle.definitions.specs.Value.{Value}
use Rattle.definitions.specs.Shape.{nothing}
use Rattle.definitions.specs.Json.{read_json}
use Rattle.definitions.specs.Join.{shape_of}
use Rattle.definitions.specs.ShapeText.{read_shape, write_shape}
use Rattle.definitions.specs.Operations.{Done, Judged, passed, stopped, refusal, judge_text, TextOut, shape_out, finish, infer_judged}
use Rattle.definitions.specs.Evaluate.{evaluate}
use Rattle.laws.specs.Tests.{lt-ltb}
use Rattle.laws.specs.JoinLaws.{join_nothing_left}
use Rattle.laws.specs.Judging.{bind_of, bind_stopped, second_stops, both_pass, text_long, text_refused, text_reads}
use Rattle.laws.specs.Judging.{shape_over, shape_out_over, shape_out_fits, shape_fits, finish_written, front}
use Rattle.laws.proofs.Theorems.{json_proper}
use Rattle.infer_stdin.specs.Reply.{refused_line, told, reply_to}

-- ---- what is told of an operation

pub told_taken : (d : Done) → d.answer.number ≡ 0 → told d ≡ take d.answer.length d.output
unfolding told
told_taken d e = rw (eq-eqb d.answer.number 0 e, told) refl

pub told_line : (d : Done) → (d.answer.number ≡ 0 → ⊥) → told d ≡ refused_line d.answer.number d.answer.place
unfolding told
told_line d e = rw (ne_eqb d.answer.number 0 e, told) refl

-- ---- what is judged behind `(shape)`

from_nothing : read_shape standard (bytes "(shape)") ≡ ok nothing
unfolding evaluate
from_nothing = refl

short_text : length (bytes "(shape)") ≤ standard.bytes
unfolding bytes standard
short_text = omega arith

module _ (document : Bytes) where
  abbrev judged : Judged TextOut
  judged = infer_judged read_json standard (bytes "(shape)") document

  starts : judge_text 1 standard read_shape (bytes "(shape)") ≡ passed nothing
  starts = text_reads 1 standard read_shape (bytes "(shape)") nothing short_text from_nothing

  -- a refused document
  document_stops : {r : Answer} → judge_text 2 standard read_json document ≡ stopped r → judged ≡ stopped r
  unfolding infer_judged
  document_stops e = bind_stopped _ (second_stops standard read_shape (bytes "(shape)") read_json document starts e)

  reply_stopped : (n k p : ℕ) → 0 < n → judged ≡ stopped (refusal n k p) → reply_to document ≡ refused_line n p
  unfolding reply_to finish refusal
  reply_stopped n k p h e =
      ap (λ m. told (finish (replicate 16384 0) m)) e
      ∙ told_line (finish (replicate 16384 0) (stopped (refusal n k p))) (λ z. omega (arith, z, h))

  reply_passed : (t : TextOut) → length t.bytes ≤ 16384 → judged ≡ passed t → reply_to document ≡ t.bytes
  unfolding reply_to
  reply_passed t h e =
      let o : Bytes = replicate 16384 0 in
      let f = front o t (finish o judged) (finish_written o t e (omega (arith, h, length-replicate {A = ℕ} 16384 0))) in
      told_taken (finish o judged) f.0 ∙ f.1

  -- ---- the cases

  -- a document that is too long
  pub long_refused : 16384 < length document → reply_to document ≡ refused_line 2 0
  unfolding standard
  long_refused h =
      reply_stopped 2 2 0 (omega arith) (document_stops (text_long 2 standard read_json document (lt-ltb _ _ h)))

  module _ (h : length document ≤ 16384) where
    -- one that is no JSON within the limits
    pub unread_refused : (n p : ℕ) → read_json standard document ≡ refused n p → reply_to document ≡ refused_line n p
    unfolding standard
    unread_refused n p e =
        reply_stopped n 2 p (json_proper.numbered standard document n p e)
        (document_stops (text_refused 2 standard read_json document n p h e))

    module _ (v : Value) (e : read_json standard document ≡ ok v) where
      shown : judged ≡ shape_out standard (shape_of v)
      unfolding standard infer_judged
      shown =
          bind_of _ (both_pass standard read_shape (bytes "(shape)") read_json document starts (text_reads 2 standard read_json document v h e))
          ∙ ap (λ s. shape_out standard s) (join_nothing_left (shape_of v))

      -- one whose shape is too large
      pub large_refused : shape_over standard (shape_of v) ≡ true → reply_to document ≡ refused_line 11 0
      large_refused q = reply_stopped 11 0 0 (omega arith) (shown ∙ shape_out_over standard (shape_of v) q)

      -- any other
      pub shape_written : shape_over standard (shape_of v) ≡ false → reply_to document ≡ write_shape (shape_of v)
      unfolding standard
      shape_written q =
          reply_passed _ (shape_fits standard (shape_of v) q).2 (shown ∙ shape_out_fits standard (shape_of v) q)
