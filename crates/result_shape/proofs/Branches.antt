-- A part of a form with its bindings, joined into a shape; and a second one behind it. Assumes nothing.
use Prim.Native.Nat.{ℕ, suc, ◌+◌, ◌*◌, ◌^◌, ◌≤◌, ◌<◌}
use native.Mathlib.Omega.{arith}
use mathlib.Core.Path.{◌≡◌, sym, ap, subst, ◌∙◌}
use mathlib.Core.Bool.{true}
use mathlib.Core.List.{List, ◌∷◌}
use lib.ListN.{length, take}
use lib.Seq.{take-take}
use Rattle.definitions.specs.Shape.{Shape, ascending, forms}
use Rattle.definitions.specs.Join.{join}
use Rattle.laws.specs.JoinLaws.{join_ascending}
use Rattle.plain.specs.Table.{Used}
use Rattle.shapes.specs.Shapes.{kind_bits, ShapeRows, Stands}
use Rattle.shapes.specs.ShapesLaws.{kind_bits_lt, stands_within}
use Rattle.join.specs.Replacing.{Put, Over}
use Rattle.std.specs.Prelude.{Some}
use Rattle.forms.specs.Forms.{FormStands, size_at}
use Rattle.forms.specs.PartsLaws.{after}
use Rattle.checking.specs.Bindings.{Bound, binding, Bindings, Kept, Binds}
use Rattle.checking.specs.BindingsLaws.{bindings_more}
use Rattle.result_shape.specs.ResultsLaws.{join_both, forms_joined}
use Rattle.result_shape.specs.Giving.{Tables, MeetsResult}
use Rattle.result_shape.proofs.Parts.{Branch, branch_room}
use Rattle.result_shape.proofs.Steps.{becomes_as, over_more, then_put, then_over}

-- ---- bindings that are kept

pub kept_then : (b b₁ b₂ : List ℕ) (d e : ℕ) → d ≤ e → Kept b b₁ d → Kept b₁ b₂ e → Kept b b₂ d
kept_then b b₁ b₂ d e l k h =
    record {
      front = sym (take-take d e b₂ l) ∙ ap (take d) h.front ∙ take-take d e b₁ l ∙ k.front;
      same = h.same ∙ k.same;
    }

-- ---- a part

module _
    {table shapes pool bindings bindings₁ result p : List ℕ} {row d used dest deep name : ℕ} {env : List Shape} {t s : Shape}
    (pooled : Used pool p)
    (stands : Stands result p dest name s)
    (within : dest + 2 * forms s ≤ used)
    (ascends : ascending s ≡ true)
    (same : length bindings₁ ≡ length bindings)
  where
    -- under the bindings that there are
    pub branch_meets
        : {at bound : ℕ} (b : Branch table p bindings row d env t) → at ≡ row → bound ≡ d → Bindings shapes p bindings₁ deep bound env
        → MeetsResult table shapes pool bindings₁ result p at bound used dest 0 deep b.result env t name s
    branch_meets {at} b e f h =
        record {
          form =
              record {
                pooled = pooled;
                stands =
                    subst (λ (x : ℕ). FormStands table p at x 0 b.result) (sym f)
                    (subst (λ (x : ℕ). FormStands table p x d 0 b.result) (sym e) b.stands);
                bound = h;
                room = omega (arith, b.room);
              };
          gives = b.gives;
          once = b.once;
          stands = stands;
          within = within;
          ascends = ascends;
        }

-- one binding more
pub bound_more
    : {table shapes p bindings bindings₁ bindings₂ : List ℕ} {row d deep e : ℕ} {env : List Shape} {t u : Shape}
    → Branch table p bindings row (suc d) (u ∷ env) t → e ≡ suc d → length bindings₁ ≡ length bindings → Bindings shapes p bindings₁ deep d env
    → Binds shapes p bindings₁ bindings₂ deep d u → Bindings shapes p bindings₂ deep e (u ∷ env)
bound_more {shapes = shapes} {p} {bindings₂ = bindings₂} {deep = deep} {env = env} {u = u} b f l h w =
    subst
    (λ (x : ℕ). Bindings shapes p bindings₂ deep x (u ∷ env))
    (sym f)
    (bindings_more h (omega (arith, branch_room b)) w)

-- the word of a binding fits
pub binding_fits
    : {shapes p : List ℕ} {deep at kinds : ℕ} {t : Shape} (cut : ℕ) (u : Shape) → Bound shapes p deep at kinds t → cut ≡ kind_bits u
    → length shapes ≤ 65536 → binding at cut < 2 ^ 64
binding_fits cut u h e l = omega (arith, kind_bits_lt u, stands_within h.stands)

-- ---- both branches

module _
    {shapes result p : List ℕ} {used dest name : ℕ} {s : Shape} (t t₁ t₂ : Shape) (stands : Stands result p dest name s) (within : dest + 2 * forms s ≤ used)
    (tables : Tables shapes result used) (asc : ascending s ≡ true) (asc₁ : ascending t₁ ≡ true) (asc₂ : ascending t₂ ≡ true) (same : t ≡ join t₁ t₂)
  where
    both_is : join (join s t₁) t₂ ≡ join s t
    both_is = join_both s t₁ t₂ t asc asc₁ asc₂ same

    pub both_ascends : ascending (join s t₁) ≡ true
    both_ascends = join_ascending s t₁ asc asc₁

    pub both_full_first
        : {result₁ : List ℕ} → Over result result₁ used (2 * forms s) (2 * forms (join s t₁))
        → Over result result₁ used (2 * forms s) (2 * forms (join s t))
    both_full_first o =
        over_more s (join s t₁) (join s t) (omega (arith, forms_joined (join s t₁) t₂ both_ascends asc₂, ap forms both_is)) o

    module _ {result₁ : List ℕ} {words : ℕ} (q : Put result result₁ used words dest (2 * forms s) (ShapeRows p name (join s t₁))) where
      pub both_full_then
          : {result₂ : List ℕ} → Over result₁ result₂ (used + words) (2 * forms (join s t₁)) (2 * forms (join (join s t₁) t₂))
          → Over result result₂ used (2 * forms s) (2 * forms (join s t))
      both_full_then o =
          over_more s (join (join s t₁) t₂) (join s t) (omega (arith, ap forms both_is)) (then_over stands within tables q (join (join s t₁) t₂) o)

      pub both_put
          : {result₂ : List ℕ} {more : ℕ}
          → Put result₁ result₂ (used + words) more dest (2 * forms (join s t₁)) (ShapeRows p name (join (join s t₁) t₂))
          → Put result result₂ used (words + more) dest (2 * forms s) (ShapeRows p name (join s t))
      both_put {result₂} {more} v =
          becomes_as result result₂ p used dest name s (Some (words + more)) both_is (then_put stands within tables q v)

-- ---- where parts stand

module _ (table : List ℕ) (row : ℕ) {a : ℕ} (first_is : a ≡ size_at table (row + 3)) where
  pub one_part : row + 3 + a ≡ after table (row + 3)
  one_part = ap (λ (x : ℕ). row + 3 + x) first_is

  pub two_parts : {b : ℕ} → b ≡ size_at table (row + 3 + a) → row + 3 + a + b ≡ after table (after table (row + 3))
  two_parts e = ap (λ (x : ℕ). row + 3 + a + x) e ∙ ap (λ (x : ℕ). x + size_at table x) one_part
