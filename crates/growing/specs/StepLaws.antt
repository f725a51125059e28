-- Words of a table replaced one after the other, and a row opened. Assumes nothing.
use Rattle.std.specs.Prelude.{ℕ, ◌+◌, ◌*◌, ◌≤◌, ◌≡◌, refl, List, [], ◌++◌, length, take, drop}
use Rattle.std.proofs.Common.{arith, sym, ap, ◌∙◌, append_assoc, length-append, take-append-drop, length-take-le}
use Rattle.std.proofs.Common.{take-take, take_at}
use Rattle.definitions.specs.Shape.{Fields, forms_fields}
use Rattle.shapes.specs.Shapes.{FieldsStand}
use Rattle.shapes.specs.ShapesLaws.{length_field_rows}
use Rattle.join.specs.Replacing.{Replaced}
use Rattle.join.specs.ReplacingLaws.{Split, replaced_split, split_replaced}

-- ---- the same parts, otherwise counted

pub split_as
    : {t : List ℕ} {used used' row row' old old' : ℕ} {front middle behind : List ℕ} → used ≡ used' → row ≡ row' → old ≡ old'
    → Split t used row old front middle behind → Split t used' row' old' front middle behind
split_as {t} {used} {used'} {row} {row'} {old} {old'} {front} {middle} {behind} e f g w =
    record {
      whole = ap (λ (n : ℕ). take n t) (sym e) ∙ w.whole;
      at = w.at ∙ f;
      size = w.size ∙ g;
      fits = omega (arith, w.fits);
    }

-- ---- one after the other

pub replaced_then
    : {t t₁ t₂ : List ℕ} {used w₁ w₂ row old old₁ : ℕ} {front middle behind rows₁ rows₂ : List ℕ}
    → Split t used row old front middle behind → Replaced t t₁ used w₁ row old rows₁ → old₁ ≡ old + w₁
    → Replaced t₁ t₂ (used + w₁) w₂ row old₁ rows₂ → Replaced t t₂ used (w₁ + w₂) row old rows₂
replaced_then {used} {w₁} {w₂} {old} {old₁} w r e q =
    split_replaced w
    (split_as (let f : used + w₁ + w₂ ≡ used + (w₁ + w₂) = omega arith in f) refl
    (let f : old₁ + w₂ ≡ old + (w₁ + w₂) = omega arith in f)
    (replaced_split (split_as refl refl (sym e) (replaced_split w r)) q))
    (q.same ∙ r.same)

-- ---- members

pub fields_split
    : {t p : List ℕ} {used first last : ℕ} {fs : Fields} (h : FieldsStand t p first last fs) → first ≤ last → last ≤ used → used ≤ length t
    → Split t used first (2 * forms_fields fs) (take first t) h.rows (drop last (take used t))
fields_split {t} {p} {used} {first} {last} {fs} h b i j =
    let n : length h.rows ≡ 2 * forms_fields fs = length_field_rows h.encoded in
    let l : length (take first t) ≡ first = length-take-le first t (omega arith) in
    let e : t ≡ (take first t ++ h.rows) ++ h.rest
    = sym (take-append-drop first t)
    ∙ ap (λ (x : List ℕ). take first t ++ x) h.placed
    ∙ sym (append_assoc (take first t) h.rows h.rest) in
    let k : length (take first t ++ h.rows) ≡ last = omega (arith, length-append (take first t) h.rows, h.reaches) in
    record {
      whole = sym (take-append-drop last (take used t))
          ∙ ap
          (λ (x : List ℕ). x ++ drop last (take used t))
          (take-take last used t i ∙ ap (take last) e ∙ take_at (take first t ++ h.rows) h.rest last k)
          ∙ append_assoc (take first t) h.rows (drop last (take used t));
      at = l;
      size = n;
      fits = j;
    }

-- ---- a row opened

-- between what stands before a row and what stands from there on
pub gap_split : (t : List ℕ) (used row : ℕ) → row ≤ used → used ≤ length t → Split t used row 0 (take row t) [] (drop row (take used t))
gap_split t used row i j =
    record {
      whole = sym (take-append-drop row (take used t))
          ∙ ap (λ (x : List ℕ). x ++ drop row (take used t)) (take-take row used t i);
      at = length-take-le row t (omega arith);
      size = refl;
      fits = j;
    }
