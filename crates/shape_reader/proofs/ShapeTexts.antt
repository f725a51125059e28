-- Answers for a whole shape text. Assumes nothing.
use Prim.Native.Nat.{ℕ, ◌*◌}
use mathlib.Core.Path.{◌≡◌, refl, sym, ap, ◌∙◌, subst}
use mathlib.Core.List.{List}
use native.Mathlib.Omega.{arith}
use lib.ListN.{length, take}
use Rattle.definitions.specs.declared.Limits.{Limits}
use Rattle.definitions.specs.Bytes.{Bytes}
use Rattle.definitions.specs.Tokens.{Placed, tokens, read_tokens, or_end}
use Rattle.definitions.specs.ShapeText.{text_end, shape_open, want, whole, put, depth, step, finished, read_shape}
use Rattle.shapes.specs.Shapes.{ShapeRows}
use Rattle.shapes.specs.ShapesLaws.{length_shape_rows}
use Rattle.tokens.specs.Expecting.{ExpectsEnd}
use Rattle.tokens.specs.TokenRead.{tokens_from}
use Rattle.reading.specs.declared.Cursor.{Cursor}
use Rattle.reading.specs.declared.Refusal.{Refusal}
use Rattle.std.specs.Prelude.{Ok, Err}
use Rattle.shape_reader.specs.ShapeParts.{reading, Limited, Ready, FormDone, ReadsForm}
use Rattle.shape_reader.specs.ShapeReads.{Tables, ReadsShape}
use Rattle.shape_reader.proofs.Steps.{more_text}
use Rattle.shape_reader.proofs.Going.{ready_then}

-- where a text begins
pub start_ready
    : {text : Bytes} {s p : List ℕ} {top values : ℕ} → Tables text s p top values
    → Ready text s p values (record { at = 0; begun = 0; top = top })
start_ready t =
    record {
      placed = record { short = t.short; within = omega arith; texts = omega (arith, t.texts); small = omega (arith, t.small) };
      rows = t.rows;
      few = t.few;
      limit = omega arith;
    }

-- the whole text is read from its first place on
begins : (l : Limits) (text : Bytes) → read_shape l text ≡ reading l 0 text (want (shape_open text_end)) 0
unfolding read_shape reading tokens tokens_from
begins l text = refl

limits_at_start : (l : Limits) → Limited l text_end l.values l.nesting
unfolding depth
limits_at_start l = record { most = refl; nests = omega arith }

module _ {text : Bytes} {s p s' p' : List ℕ} {top : ℕ} (l : Limits) (t : Tables text s p top l.values) where
  pub text_refused
      : {r : Refusal} → ReadsForm l.nesting l.values text s p s' p' 0 (record { at = 0; begun = 0; top = top }) (Err r)
      → ReadsShape l text s p s' p' top (Err r)
  text_refused x =
      record {
        answer = begins l text ∙ x.answer l text_end (limits_at_start l);
        shapes_kept = x.sized.shapes_kept;
        pool_kept = x.sized.pool_kept;
      }

  module _ {to : Cursor} (x : ReadsForm l.nesting l.values text s p s' p' 0 (record { at = 0; begun = 0; top = top }) (Ok to)) where
    read_form : FormDone l.nesting l.values text s p s' p' 0 (record { at = 0; begun = 0; top = top }) to
    read_form = x.answer

    pub end_ready : Ready text s' p' l.values to
    end_ready = ready_then (start_ready t) read_form.goes x.sized

    to_end : read_shape l text ≡ reading l to.begun text (whole read_form.form) to.at
    unfolding put
    to_end = begins l text ∙ read_form.run l text_end (limits_at_start l)

    pub more_behind : {r : Refusal} → ExpectsEnd text to.at (Err r) → ReadsShape l text s p s' p' top (Err r)
    more_behind y =
        record {
          answer = to_end ∙ more_text l to.begun read_form.form y.answer;
          shapes_kept = x.sized.shapes_kept;
          pool_kept = x.sized.pool_kept;
        }

    pub whole_text
        : {u : Unit {0}} → ExpectsEnd text to.at (Ok u) → ReadsShape l text s p s' p' top (Ok (record { words = 2 * to.begun; top = to.top }))
    unfolding reading read_tokens or_end finished
    whole_text y =
        let done = read_form in
        let rows_are : take (2 * to.begun) s' ≡ done.rows = done.goes.table in
        record {
          answer =
              record {
                form = done.form;
                read =
                    to_end
                    ∙ ap (λ (ts : List Placed). read_tokens step finished l to.begun (length text) (whole done.form) ts)
                    y.answer;
                held = subst (λ (q : List ℕ). ShapeRows (take to.top p') 0 done.form q) (sym rows_are) done.held;
                counted = omega (arith, done.goes.counted, length_shape_rows done.held);
                grows = done.goes.moves.grows;
                within = omega (arith, end_ready.placed.texts, end_ready.placed.within);
                small = omega (arith, end_ready.placed.small, end_ready.placed.within);
                front = done.goes.front;
              };
          shapes_kept = x.sized.shapes_kept;
          pool_kept = x.sized.pool_kept;
        }
