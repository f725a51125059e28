-- A pool that is used further: what stood in it stands there still. Assumes nothing.
use Prim.Native.Nat.{ℕ, ◌≤◌}
use mathlib.Core.Path.{◌≡◌, sym, ap, ◌∙◌, subst}
use mathlib.Core.List.{List, ◌++◌}
use lib.ListN.{take, drop, take-append-drop}
use lib.Seq.{take-take}
use Rattle.definitions.specs.Bytes.{Bytes}
use Rattle.definitions.specs.Value.{Value}
use Rattle.definitions.specs.Reader.{Place, Result}
use Rattle.nodes.specs.Nodes.{Refers}
use Rattle.nodes.specs.NodesLaws.{refers_grow}
use Rattle.forms.specs.Forms.{LiteralPayload, PlaceRows, FormRows}
use Rattle.tokens.specs.Expecting.{Kept}
use Rattle.forms.specs.FormsLaws.{literal_payload_grow, place_rows_grow, form_rows_grow}

module _ {p p' : List ℕ} {a : ℕ} (k : Kept p p' a) (b : ℕ) (h : a ≤ b) where
  -- what is used then goes on from what was used
  grown : take b p' ≡ take a p ++ drop a (take b p')
  grown = sym (take-append-drop a (take b p')) ∙ ap (λ (t : List ℕ). t ++ drop a (take b p')) (take-take a b p' h ∙ k.front)

  pub refers_later : {t : Bytes} {n : ℕ} → Refers (take a p) t n → Refers (take b p') t n
  refers_later {t} {n} r = subst (λ (q : List ℕ). Refers q t n) (sym grown) (refers_grow (drop a (take b p')) r)

  pub place_rows_later : {d : ℕ} {q : Place} {rs : List ℕ} → PlaceRows (take a p) d q rs → PlaceRows (take b p') d q rs
  place_rows_later {d} {q} {rs} r =
      subst (λ (u : List ℕ). PlaceRows u d q rs) (sym grown) (place_rows_grow (drop a (take b p')) r)

  pub form_rows_later : {d m : ℕ} {f : Result} {rs : List ℕ} → FormRows (take a p) d m f rs → FormRows (take b p') d m f rs
  form_rows_later {d} {m} {f} {rs} r =
      subst (λ (u : List ℕ). FormRows u d m f rs) (sym grown) (form_rows_grow (drop a (take b p')) r)

  pub literal_payload_later : {v : Value} {n : ℕ} → LiteralPayload (take a p) v n → LiteralPayload (take b p') v n
  literal_payload_later {v} {n} r =
      subst (λ (u : List ℕ). LiteralPayload u v n) (sym grown) (literal_payload_grow (drop a (take b p')) r)

-- what is kept up to a word is kept before it
pub kept_before : {p p' p'' : List ℕ} {a b : ℕ} → Kept p p' a → Kept p' p'' b → a ≤ b → Kept p p'' a
kept_before {p} {p'} {p''} {a} {b} k m h =
    record {
      size = m.size ∙ k.size;
      front =
          sym (take-take a b p'' h) ∙ ap (λ (t : List ℕ). take a t) m.front ∙ take-take a b p' h ∙ k.front;
    }
