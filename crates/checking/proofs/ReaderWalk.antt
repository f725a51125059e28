-- A reader checked against a shape: the shape is bound to the document. Assumes nothing.
use Prim.Native.Nat.{ℕ, ◌%◌, ◌<◌}
use mathlib.Core.Path.{◌≡◌, refl, ◌∙◌}
use mathlib.Core.List.{List, [], ◌∷◌}
use native.Mathlib.Omega.{arith}
use lib.ListN.{length, get_or, set}
use Rattle.definitions.specs.Shape.{Shape}
use Rattle.definitions.specs.Reader.{Result}
use Rattle.definitions.specs.Checking.{check_reader}
use Rattle.forms.specs.FormsLaws.{levels_some}
use Rattle.checking.specs.Bindings.{binding, Bindings, Binds}
use Rattle.checking.specs.BindingsLaws.{bound_row, bind_kept, binds, bindings_more}
use Rattle.checking.specs.CheckContracts.{Checked, MeetsForm, FormAsked, GivesForm, MeetsReader, ReaderAsked, ChecksReader}

no_bindings : (shapes p b : List ℕ) (deep : ℕ) → Bindings shapes p b deep 0 []
no_bindings shapes p b deep =
    record { many = refl; within = omega arith; holds = λ n l. absurd (let z : ⊥ = omega arith in z) }

module _ (forms shapes pool b : List ℕ) where
  pub some_bindings : ReaderAsked forms shapes pool b → 0 < length b
  some_bindings h = omega (arith, h.meets.room, levels_some h.form)

  module _ {k : ℕ} (e : k ≡ get_or shapes 0 0 % 128) (b₁ : List ℕ) (put : b₁ ≡ set b 0 (binding 0 k)) where
    meets
        : {p : List ℕ} {m deep : ℕ} {r : Result} {s : Shape} → MeetsReader forms shapes pool b p m deep r s
        → MeetsForm forms shapes pool b₁ p 0 1 0 deep r (s ∷ [])
    meets {p} {m} {deep} {r} {s} h =
        let there : 0 < length b = omega (arith, h.room, levels_some r) in
        let few : k < 128 = omega arith in
        let w : Binds shapes p b b₁ deep 0 s = binds b b₁ 0 0 k put there few (rw e (bound_row h.shaped h.ascends h.nests)) in
        record {
          pooled = h.pooled;
          stands = h.stands;
          bound = bindings_more (no_bindings shapes p b deep) there w;
          room = omega (arith, h.room, w.kept.same);
        }

    pub reader_asked : ReaderAsked forms shapes pool b → FormAsked forms shapes pool b₁ 0 1
    reader_asked h = record { p = h.p; m = 0; deep = h.deep; form = h.form; env = _; meets = meets h.meets }

    pub reader_told
        : ReaderAsked forms shapes pool b → (b₂ : List ℕ) (x : Checked) → GivesForm forms shapes pool b₁ b₂ 0 1 x
        → ChecksReader forms shapes pool b x × (length b₂ ≡ length b)
    unfolding check_reader
    reader_told asked b₂ x gives = (
      λ p m deep r s h. gives.told p 0 deep r (s ∷ []) (meets h),
      gives.kept.same ∙ (bind_kept b b₁ 0 0 k put (some_bindings asked) (omega arith)).same,
    )
