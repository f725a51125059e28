-- Answers for the bracket, the word and the kinds of a shape. Assumes nothing.
use Prim.Native.Nat.{ℕ, suc, ◌+◌, ◌-◌}
use mathlib.Core.Path.{◌≡◌, refl, sym, ap, ◌∙◌, subst}
use mathlib.Core.Bool.{true, false}
use mathlib.Core.List.{[]}
use native.Mathlib.Omega.{arith}
use lib.ListN.{length, drop, length-drop}
use lib.Seq.{length-take-le}
use Rattle.definitions.specs.declared.Limits.{Limits}
use Rattle.definitions.specs.Bytes.{Bytes, same}
use Rattle.definitions.specs.Tokens.{opening, closing, quoted, word, broken, opens, want_open}
use Rattle.definitions.specs.Tokens as Tokens
use Rattle.definitions.specs.ShapeText.{Around, shape_open, shape_word, want, depth, want_step}
use Rattle.laws.specs.Names.{eq_same}
use Rattle.laws.specs.Bools.{clash}
use Rattle.tokens.specs.ReadingLaws.{no_opening, as_misplaced}
use Rattle.tokens.specs.TokenRead.{word_in, Found}
use Rattle.reading.specs.declared.Cause.TheVariants.{FormSyntax, FormLimit}
use Rattle.reading.specs.declared.Cursor.{Cursor}
use Rattle.reading.specs.declared.Refusal.{Refusal}
use Rattle.std.specs.Prelude.{Result, Ok, Err}
use Rattle.tokens.specs.declared.expect.Span.{Span}
use Rattle.shape_reader.specs.declared.kinds.Kinds.{Kinds}
use Rattle.tokens.specs.Expecting.{an_opening, a_word, sort, ExpectsOpening, ExpectsWord, JudgesFull}
use Rattle.shape_reader.specs.ShapeParts.{reading, Limited, shape_bytes, Expects}
use Rattle.shape_reader.specs.ShapeParts.{BeginsShape, ReadsKinds, OpensForm}
use Rattle.shape_reader.proofs.Steps.{goes_on, opens_on, opens_full, misplaced_found, lacking, only_shape, shape_goes}

-- ---- a fixed word

word_bytes : Tokens.Token → Bytes
word_bytes opening = []
word_bytes closing = []
word_bytes (quoted t) = []
word_bytes (word v) = v
word_bytes broken = []

no_word : (t : Tokens.Token) (w : Bytes) → (sort t ≡ a_word → ⊥) → t ≡ word w → ⊥
unfolding sort
no_word t w h e = h (ap sort e)

module _ {text : Bytes} {at : ℕ} (w : Bytes) where
  pub word_missing : {r : Refusal} → ExpectsWord text at (Err r) → Expects text at w (Err r)
  word_missing x = record { answer = (x.answer.cause, λ l n q only. lacking l n q a_word x.answer (λ t h. only t (no_word t w h))) }

  module _ {s : Span} (x : ExpectsWord text at (Ok s)) where
    pub word_there : word_in text s.place s.end ≡ w → Expects text at w (Ok s.end)
    unfolding word_in
    word_there is =
        let f = x.answer in
        let sized : length (word_in text s.place s.end) ≡ s.end - s.place =
        length-take-le (s.end - s.place) (drop s.place text) (omega (arith, f.within, length-drop s.place text))
        in
        record {
          answer = (
            s.place,
            subst (λ (v : Bytes). Found text at (word v) s.place s.end) is f,
            omega (arith, sym (ap length is) ∙ sized, f.ahead),
          );
        }

    pub word_other
        : {r : Refusal} → same (word_in text s.place s.end) w ≡ false → r.place ≡ s.place → r.cause ≡ FormSyntax → Expects text at w (Err r)
    unfolding word_bytes
    word_other e i j =
        record {
          answer = (
            j,
            λ l n q only.
                misplaced_found l n q x.answer
                (only (word (word_in text s.place s.end)) (λ k. clash (eq_same (word_in text s.place s.end) w (ap word_bytes k)) e))
                ∙ as_misplaced i j,
          );
        }

-- ---- the bracket

module _ {text : Bytes} (values left : ℕ) (c : Cursor) where
  pub bracket_missing : {r : Refusal} → ExpectsOpening text c.at (Err r) → BeginsShape text values left c (Err r)
  unfolding want_step
  bracket_missing x =
      record {
        answer = λ l o a.
            lacking l c.begun (shape_open o) an_opening x.answer (λ t h. no_opening t (opens (suc (depth o)) (want (shape_word o))) h);
      }

  module _ {at : ℕ} (x : ExpectsOpening text c.at (Ok at)) where
    pub bracket_full
        : JudgesFull values left c.begun true → BeginsShape text values left c (Err (record { cause = FormLimit; place = at }))
    unfolding want_step want_open
    bracket_full j =
        record {
          answer = λ l o a. opens_full l c.begun (shape_open o) x.answer refl (sym (j.judged l (depth o) a.most a.nests));
        }

    bracket_read
        : JudgesFull values left c.begun false → (l : Limits) (o : Around) → Limited l o values left
        → reading l c.begun text (want (shape_open o)) c.at ≡ reading l (suc c.begun) text (want (shape_word o)) (at + 1)
    unfolding want_step want_open
    bracket_read j l o a = opens_on l c.begun (shape_open o) x.answer refl (sym (j.judged l (depth o) a.most a.nests))

    pub shape_begun
        : (y : Result ℕ Refusal) → JudgesFull values left c.begun false → Expects text (at + 1) shape_bytes y
        → BeginsShape text values left c y
    shape_begun (Ok end) j w =
        let there = w.answer in
        record {
          answer =
              record {
                run = λ l o a. bracket_read j l o a ∙ goes_on l (suc c.begun) (shape_word o) there.1 (shape_goes o);
                ahead = omega (arith, x.answer.from, there.1.from, there.1.ahead);
                within = there.1.within;
                begun = (j.within refl).0;
                nested = (j.within refl).1;
              };
        }
    shape_begun (Err r) j w = record { answer = λ l o a. bracket_read j l o a ∙ w.answer.1 l (suc c.begun) (shape_word o) (only_shape o) }

-- ---- the kinds

module _ {text : Bytes} {values left : ℕ} (c : Cursor) where
  pub form_refused : {r : Refusal} → BeginsShape text values left c (Err r) → OpensForm text values left c (Err r)
  form_refused x = record { answer = x.answer }

  pub form_open
      : {at : ℕ} → BeginsShape text values left c (Ok at) → (k : Result Kinds Refusal) → ReadsKinds text at k → OpensForm text values left c k
  form_open x (Ok k) z =
      let y = x.answer in
      let ks = z.answer in
      record {
        answer =
            record {
              listed = ks.listed;
              held = ks.held;
              run = λ l o a. y.run l o a ∙ ks.run l (suc c.begun) o;
              ahead = omega (arith, y.ahead, ks.ahead);
              within = ks.within;
              begun = y.begun;
              nested = y.nested;
            };
      }
  form_open x (Err r) z = record { answer = λ l o a. x.answer.run l o a ∙ z.answer.1 l (suc c.begun) o }
