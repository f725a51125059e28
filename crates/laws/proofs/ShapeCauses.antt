-- A shape text that is refused is refused with the least of its causes. Assumes nothing.
use Rattle.std.specs.Prelude.{ℕ, suc, ◌≡◌, List, [], ◌∷◌, length}
use Rattle.std.proofs.Math.Path.{refl}
use Rattle.std.proofs.Common.{sym, ◌∙◌, ap, subst, subst₂, append_assoc, arith}
use Rattle.definitions.specs.declared.Limits.{Limits}
use Rattle.definitions.specs.Bytes.{Bytes, bytes}
use Rattle.definitions.specs.Outcome.{ok, refused}
use Rattle.definitions.specs.Shape.{Shape, forms}
use Rattle.definitions.specs.ShapeText.{text_end, shape_open, State, want, whole, step, finished, read_shape}
use Rattle.definitions.specs.Tokens.{word, Placed, opens}
use Rattle.laws.specs.Causes.{First}
use Rattle.laws.specs.FormGrammar.{at, ShapeForm, ShapeText}
use Rattle.laws.specs.FormRuns.{Walk, stay, on, enter, walk_unique}
use Rattle.laws.proofs.FormSteps.{says_go, says_opens}
use Rattle.laws.specs.FormCauses.{open_behind, shapes_among, shapes_begun, Begins, ShapeBracket, shape_bracket, ShapeCause}
use Rattle.laws.proofs.FormStops.{Reaches, walk_parts, walk_join, walk_misplaced}
use Rattle.laws.proofs.FormLeast.{Adequate, refused_cause, refused_least, accepted_causeless}
use Rattle.laws.proofs.ShapeBacks.{walk_right}
use Rattle.laws.proofs.ShapeWalks.{shape_depths, depths_forms, shape_named as shape_goes}
use Rattle.laws.proofs.ShapeForms.{right_walk, whole_walk}
use Rattle.laws.proofs.ShapeLive.{live}
use Rattle.laws.proofs.ShapeOpen.{around, open_in, pending, Barred, Goes, Enters, step_says, walk_open, walk_begun}

-- ---- the steps are adequate

begins : {pre : List Placed} {ds : List ℕ} {q : State} → Walk step (want (shape_open text_end)) pre ds q [] → Begins ShapeText pre
begins {q = q} w =
    let h = live q in
    record { rest = h.0; right = (h.1.value, walk_right (whole_walk (walk_join w h.1.walk) h.1.is_whole)) }

bracket_to
    : {pre : List Placed} {ds : List ℕ} {q r : State} {t : Placed} {d : ℕ} → Walk step (want (shape_open text_end)) pre ds q []
    → step q t ≡ opens d r → ShapeBracket pre t (suc (length ds)) d
unfolding open_in around pending
bracket_to {pre} {ds} {q = q} {t = t} w e =
    let h = says_opens (Goes q) (Enters q) (step_says q t) e in
    let a = walk_begun w refl in
    let b = h.none_pending in
    subst₂
    (ShapeBracket pre t)
    (let z : suc (shapes_begun pre) ≡ suc (length ds) = omega arith in z)
    (ap (λ fs. suc (shapes_among fs)) (sym (walk_open w refl)) ∙ sym h.at_depth)
    (shape_bracket
    h.is_bracket
    (begins (walk_join w (enter e (on (ap (λ x. step x (at 0 (word (bytes "shape")))) h.leads ∙ shape_goes h.inner 0) stay)))))

bracket_from
    : {pre : List Placed} {ds : List ℕ} {q : State} {t : Placed} {n d : ℕ} → Walk step (want (shape_open text_end)) pre ds q []
    → ShapeBracket pre t n d → (r : State) × (step q t ≡ opens d r) × (n ≡ suc (length ds))
unfolding open_in around pending
bracket_from {pre} {ds} {q} {t} w (shape_bracket i b) =
    let v =
    subst
    (λ ts. Walk step (want (shape_open text_end)) ts (shape_depths b.right.0 0) (whole b.right.0) [])
    (append_assoc pre (t ∷ at 0 (word (bytes "shape")) ∷ []) b.rest)
    (right_walk b.right.1)
    in
    let h = walk_parts pre v in
    over
    (subst
    (λ x. Walk step x (t ∷ at 0 (word (bytes "shape")) ∷ b.rest) h.behind (whole b.right.0) [])
    (walk_unique {w = q} h.first w).1
    h.second)
  where
    over
        : {ts : List Placed} {es : List ℕ} {u : State} → Walk step q (t ∷ at 0 (word (bytes "shape")) ∷ ts) es u []
        → (r : State) × (step q t ≡ opens (suc (shapes_among (open_behind [] pre))) r) × (suc (shapes_begun pre) ≡ suc (length ds))
    over (on {r = r} e x) =
        walk_misplaced x (subst (λ k. Barred k r) i (says_go (Goes q) (Enters q) (step_says q t) e).barred)
    over (enter {r = r} e x) =
        let h = says_opens (Goes q) (Enters q) (step_says q t) e in
        let a = walk_begun w refl in
        let c = h.none_pending in
        (r, e ∙ ap (λ d. opens d r) (h.at_depth ∙ ap (λ fs. suc (shapes_among fs)) (walk_open w refl)), omega arith)

adequate : Adequate step finished (want (shape_open text_end)) ShapeText ShapeBracket
adequate =
    record {
      sound = λ {a = a} w e. (a, walk_right (whole_walk w e));
      complete = reaches;
      live = λ {q = q} w. live q;
      bracket_to = bracket_to;
      bracket_from = bracket_from;
    }
  where
    reaches : {ts : List Placed} → ShapeText ts → Reaches step finished (want (shape_open text_end)) ts
    reaches (s, f) = record { depths = shape_depths s 0; last = whole s; value = s; walk = right_walk f; is_whole = unfold finished in refl }

-- ---- refusals of shape texts

-- the refusal given is a cause
pub shape_refused : (l : Limits) (s : Bytes) (n p : ℕ) → read_shape l s ≡ refused n p → ShapeCause l s n p
unfolding read_shape
shape_refused l s n p e = refused_cause adequate l s n p e

-- it is the least: every other cause stands later, or there with no smaller number
pub shape_least
    : (l : Limits) (s : Bytes) (n p m q : ℕ) → read_shape l s ≡ refused n p → ShapeCause l s m q → First n p m q
unfolding read_shape
shape_least l s n p m q e c = refused_least adequate l s n p m q e c

-- what is accepted has no cause
pub shape_causeless : (l : Limits) (s : Bytes) (sh : Shape) (m q : ℕ) → read_shape l s ≡ ok sh → ShapeCause l s m q → ⊥
unfolding read_shape
shape_causeless l s sh m q e c = accepted_causeless adequate l s sh m q e c

-- ---- what the causes count

-- the shape forms that a right text begins are those of its shape
pub shape_forms_begun : {s : Shape} {ts : List Placed} → ShapeForm ts s [] → shapes_begun ts ≡ forms s
unfolding pending
shape_forms_begun {s} f =
    let a = walk_begun (right_walk f) refl in
    let b = depths_forms s 0 in
    omega arith
