-- Answers for the brackets of a form and the word behind the first one. Assumes nothing.
use Prim.Native.Nat.{ℕ, suc, ◌+◌}
use mathlib.Core.Path.{◌≡◌, refl, sym, ◌∙◌}
use mathlib.Core.Bool.{Bool, true, false}
use native.Mathlib.Omega.{arith}
use Rattle.std.specs.Prelude.{Ok, Err}
use Rattle.definitions.specs.Bytes.{Bytes}
use Rattle.definitions.specs.Tokens.{opening, closing, word}
use Rattle.reading.specs.declared.Cause.TheVariants.{FormLimit}
use Rattle.reading.specs.declared.Cursor.{Cursor}
use Rattle.reading.specs.declared.Refusal.{Refusal}
use Rattle.tokens.specs.declared.expect.Span.{Span}
use Rattle.tokens.specs.TokenRead.{Found, word_in}
use Rattle.tokens.specs.Expecting.{an_opening, a_word, Misses, JudgesFull}
use Rattle.form_reader.specs.FormParts.{BracketRead, OpensForm, BeginsForm, ClosesForm}
use Rattle.form_reader.proofs.Steps.{opens_on, opens_full, no_bracket, no_word}

module _ (values left : ℕ) (c : Cursor) {text : Bytes} where
  -- ---- the opening bracket

  pub bracket_missing : {e : Refusal} → Misses an_opening text c.at e → OpensForm text values left c (Err e)
  bracket_missing m = record { answer = λ x w d f o l. no_bracket x c.begun w o m }

  module _ {place : ℕ} (found : Found text c.at opening place (place + 1)) {full : Bool} (j : JudgesFull values left c.begun full) where
    pub bracket_full : full ≡ true → OpensForm text values left c (Err (record { cause = FormLimit; place = place }))
    bracket_full h =
        record {
          answer = λ x w d f o l.
              opens_full x c.begun w o found (sym (j.judged x.limits d l.most l.nests) ∙ h);
        }

    pub bracket_read : full ≡ false → OpensForm text values left c (Ok place)
    bracket_read h =
        record {
          answer =
              record {
                run = λ x w d f o l.
                    opens_on x c.begun w o found (sym (j.judged x.limits d l.most l.nests) ∙ h);
                ahead = found.from;
                within = omega (arith, found.within);
                begun = (j.within h).0;
                nested = (j.within h).1;
              };
        }

  -- ---- the word behind it

  pub form_refused : {e : Refusal} → OpensForm text values left c (Err e) → BeginsForm text values left c (Err e)
  form_refused y = record { answer = λ x w d f g o u l. y.answer x w d f o l }

  module _ {place : ℕ} (opened : BracketRead text values left c place) where
    pub word_read
        : {w : Span} → Found text (place + 1) (word (word_in text w.place w.end)) w.place w.end
        → BeginsForm text values left c (Ok (record { place = place; word = w }))
    word_read f = record { answer = record { bracket = opened; found = f } }

    pub word_missing : {e : Refusal} → Misses a_word text (place + 1) e → BeginsForm text values left c (Err e)
    word_missing m =
        record {
          answer = λ x w d f g o u l. opened.run x w d f o l ∙ no_word x (suc c.begun) (f place) (u place) m;
        }

-- ---- the closing bracket

module _ (c : Cursor) {text : Bytes} where
  pub end_read
      : {place : ℕ} → Found text c.at closing place (place + 1)
      → ClosesForm text c (Ok (record { at = place + 1; begun = c.begun; top = c.top }))
  end_read {place} f =
      record {
        answer =
            record {
              place = place;
              found = f;
              begun = refl;
              top = refl;
              further = omega (arith, f.from);
              within = f.within;
            };
      }
