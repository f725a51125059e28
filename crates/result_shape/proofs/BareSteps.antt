-- A result without parts joined into a shape: it adds kinds. Assumes nothing.
use Prim.Native.Nat.{ℕ, ◌+◌, ◌/◌, ◌%◌, ◌^◌, ◌<◌}
use native.Mathlib.Omega.{arith}
use mathlib.Core.Path.{◌≡◌, ap, ◌∙◌, subst}
use mathlib.Core.List.{List, ◌∷◌, ◌++◌}
use lib.Bits.{bit_or}
use lib.ListN.{length, get_or, take, drop}
use Rattle.definitions.specs.Value.{Value}
use Rattle.definitions.specs.Shape.{Shape}
use Rattle.definitions.specs.Join.{join}
use Rattle.definitions.specs.Reader.{Result}
use Rattle.shapes.specs.Shapes.{kind_bits, head_of, size_at}
use Rattle.shapes.specs.ShapesLaws.{union_bits, stands_row}
use Rattle.std.specs.Prelude.{Some}
use Rattle.growing.specs.HeadLaws.{SameParts, raise_fits, kinds_put}
use Rattle.forms.specs.Forms.{form_code, LiteralPayload, FormStands}
use Rattle.forms.specs.FormsLaws.{stands_code, stands_operand}
use Rattle.forms.specs.PartsLaws.{literal_stands}
use Rattle.result_shape.specs.Results.{Bare}
use Rattle.result_shape.specs.ResultsLaws.{bare_partless, partless_joined}
use Rattle.result_shape.specs.Giving.{Tables, TellsBare, MeetsResult, ResultAsked, GivesResult}
use Rattle.result_shape.proofs.Parts.{bare_form}

module _
    {table shapes pool bindings result : List ℕ} {row d used dest deep code operand payload kinds : ℕ} (tables : Tables shapes result used)
    (code_is : code ≡ get_or table row 0 % 32)
    (operand_is : operand ≡ get_or table row 0 / 32 % 64)
    (payload_is : payload ≡ get_or table (row + 1) 0)
    (no_keep : code ≡ 7 → ⊥)
    (no_each : code ≡ 9 → ⊥)
    (no_when : code ≡ 10 → ⊥)
    (no_choose : code ≡ 11 → ⊥)
    (no_pack : code ≡ 17 → ⊥)
    (tells : TellsBare code operand payload kinds)
  where
    module _
        {p : List ℕ} {m : ℕ} {r : Result} {env : List Shape} {t : Shape} {name : ℕ} {s : Shape}
        (j : MeetsResult table shapes pool bindings result p row d used dest m deep r env t name s)
      where
        form_is : code ≡ form_code r
        form_is = code_is ∙ stands_code j.form.stands

        bare : Bare r t
        bare =
            bare_form r j.form j.gives (λ e. no_keep (form_is ∙ e)) (λ e. no_each (form_is ∙ e)) (λ e. no_when (form_is ∙ e))
            (λ e. no_choose (form_is ∙ e)) (λ e. no_pack (form_is ∙ e))

        held : (at : ℕ) (v : Value) → r ≡ Result.literal at v → LiteralPayload p v payload
        held at v e = rw payload_is (literal_stands (subst (λ (x : Result). FormStands table p row d m x) e j.form.stands))

        bits : bit_or (kind_bits s) kinds ≡ kind_bits (join s t)
        bits =
            ap (λ (x : ℕ). bit_or (kind_bits s) x) (tells p r t form_is (operand_is ∙ stands_operand j.form.stands) held bare)
            ∙ union_bits s t

        same : SameParts s (join s t)
        same = partless_joined s t (bare_partless bare)

    pub bare_fits
        : ResultAsked table shapes pool bindings result row d used dest deep
        → (dest < length result) × (head_of (bit_or (get_or result dest 0 % 128) kinds) (size_at result dest + 0) < 2 ^ 64)
    bare_fits w =
        let j = w.meets in (
          omega (arith, stands_row j.stands),
          raise_fits kinds 0 (join w.old w.given) j.stands (bits j) (omega (arith, (same j).counts))
              (omega (arith, (same j).counts, j.within, tables.enough, tables.small)),
        )

    pub bare_answer
        : {result' : List ℕ}
        → result' ≡ take dest result ++ head_of (bit_or (get_or result dest 0 % 128) kinds) (size_at result dest + 0) ∷ drop (dest + 1) result
        → length result' ≡ length result → GivesResult table shapes pool bindings result result' row d used dest deep (Some 0)
    bare_answer e l p m r env t name s j = kinds_put kinds j.stands j.within tables.enough (same j) (bits j) l e
