-- Answers for the element of a shape. Assumes nothing.
use Prim.Native.Nat.{ℕ}
use mathlib.Core.Path.{◌≡◌, refl, sym, ap, ◌∙◌}
use mathlib.Core.Bool.{Bool, true, false}
use mathlib.Core.List.{List, []}
use native.Mathlib.Omega.{arith}
use Rattle.definitions.specs.declared.Limits.{Limits}
use Rattle.definitions.specs.Bytes.{Bytes}
use Rattle.definitions.specs.Shape.{Kind, among, no_list, list_of, no_fields, has_list}
use Rattle.definitions.specs.ShapeText.{Around, as_element, shape_open, want, put, with_element}
use Rattle.shapes.specs.Shapes.{has_bit, no_element_rows, element_rows}
use Rattle.reading.specs.declared.Cursor.{Cursor}
use Rattle.reading.specs.declared.Refusal.{Refusal}
use Rattle.std.specs.Prelude.{Result, Ok, Err}
use Rattle.shape_reader.specs.ShapeParts.{reading, KindsHeld, parts, behind, Ready, FormAnswer, ReadsForm, ElementAnswer, ReadsElement}
use Rattle.shape_reader.proofs.KindSets.{has_list_kind}
use Rattle.shape_reader.proofs.Going.{goes_alone, in_element}

module _ {left values kinds : ℕ} {text : Bytes} {s p s' p' : List ℕ} (c : Cursor) where
  pub element_read
      : {b : Bool} {r : Result Cursor Refusal} → b ≡ has_bit kinds 32 → b ≡ true → ReadsForm left values text s p s' p' 0 c r
      → ReadsElement left values text s p s' p' kinds c r
  unfolding put with_element has_list behind
  element_read {r} g h x = record { answer = pick r x.answer; sized = x.sized }
    where
      there
          : (l : Limits) (o : Around) (ks : List Kind) → KindsHeld ks kinds
          → reading l c.begun text (want (behind (among Kind.list ks) (parts ks no_list no_fields) o)) c.at
          ≡ reading l c.begun text (want (shape_open (as_element (parts ks no_list no_fields) o))) c.at
      there l o ks k =
          ap (λ (b : Bool). reading l c.begun text (want (behind b (parts ks no_list no_fields) o)) c.at)
          (sym (has_list_kind k) ∙ sym g ∙ h)

      pick : (u : Result Cursor Refusal) → FormAnswer left values text s p s' p' 0 c u → ElementAnswer left values text s p s' p' kinds c u
      pick (Ok to) d =
          record {
            element = list_of d.form;
            run = λ l o a ks k.
                there l o ks k
                ∙ d.run l (as_element (parts ks no_list no_fields) o) (in_element (parts ks no_list no_fields) a);
            rows = d.rows;
            held = element_rows d.held;
            is_list = sym h ∙ g;
            goes = d.goes;
          }
      pick (Err u) d = λ l o a ks k.
          there l o ks k ∙ d l (as_element (parts ks no_list no_fields) o) (in_element (parts ks no_list no_fields) a)

pub element_none
    : {left values kinds : ℕ} {text : Bytes} {s p : List ℕ} (c : Cursor) {b : Bool} → Ready text s p values c → b ≡ has_bit kinds 32 → b ≡ false
    → ReadsElement left values text s p s p kinds c (Ok c)
unfolding has_list behind
element_none {text} c r g h =
    record {
      answer =
          record {
            element = no_list;
            run = λ l o a ks k.
                ap (λ (b : Bool). reading l c.begun text (want (behind b (parts ks no_list no_fields) o)) c.at)
                (sym (has_list_kind k) ∙ sym g ∙ h);
            rows = [];
            held = no_element_rows;
            is_list = sym h ∙ g;
            goes =
                goes_alone refl r.limit refl
                (record { ahead = omega arith; within = r.placed.within; grows = omega arith; room = omega arith });
          };
      sized = record { shapes_kept = refl; pool_kept = refl };
    }
