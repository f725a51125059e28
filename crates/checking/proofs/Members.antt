-- The member that `field` gives, as it is looked for in the table. Assumes nothing.
use Prim.Native.Nat.{ℕ, ◌+◌, ◌/◌, ◌%◌, ◌≤◌}
use mathlib.Core.Path.{◌≡◌, sym, ap, subst, ◌∙◌}
use mathlib.Core.Bool.{Bool, true, false}
use mathlib.Core.List.{List}
use native.Mathlib.Omega.{arith}
use lib.Bits.{bit_or}
use lib.Dec.{eqb}
use lib.ListN.{length, get_or}
use Rattle.definitions.specs.Bytes.{Bytes}
use Rattle.definitions.specs.Shape.{Kind, Shape, rec_of, Fields, within, record_of, has}
use Rattle.definitions.specs.Checking.{field_kinds, gain_null}
use Rattle.pool.specs.Pool.{text_in}
use Rattle.nodes.specs.StandingLaws.{text_referred}
use Rattle.shapes.specs.Shapes.{kind_bit, has_bit, members_at, size_at}
use Rattle.shapes.specs.ShapesLaws.{has_kind, stands_row, stands_size, stands_within}
use Rattle.shapes.specs.Members.{Listed, SomeListed, Tells, Names}
use Rattle.std.specs.Prelude.{Option, Some, None, Ok, Err}
use Rattle.reading.specs.declared.Cause.TheVariants as cause
use Rattle.shapes.specs.declared.Shape as bits
use Rattle.checking.specs.KindSets.{TellsGain}
use Rattle.checking.specs.Bindings.{Bound}
use Rattle.checking.specs.BindingsLaws.{bound_gained, bound_members, found_bound}
use Rattle.checking.specs.WantsLaws.{joins_told, field_wanted, field_unmet, field_nothing, field_missing, field_found, rec_there, rec_lacks}
use Rattle.checking.specs.CheckContracts.{MeetsField, FieldAsked, GivesField}

-- whether rec is left
rec_left
    : {shapes p : List ℕ} {deep row kinds : ℕ} {s : Shape} → Bound shapes p deep row kinds s → has_bit kinds 64 ≡ has Kind.rec s
unfolding kind_bit
rec_left {s} h = ap (λ (x : ℕ). has_bit x 64) (sym h.left) ∙ has_kind Kind.rec s

pub row_ends : {shapes p : List ℕ} {deep row kinds : ℕ} {s : Shape} → Bound shapes p deep row kinds s → row + size_at shapes row ≤ length shapes
row_ends h = omega (arith, stands_within h.stands, stands_size h.stands)

module _ (shapes pool : List ℕ) (row kinds k place : ℕ) {w : Bool} (told : w ≡ eqb (bit_or kinds 65) 65) where
  is_wanted : {p : List ℕ} {deep : ℕ} {s : Shape} → Bound shapes p deep row kinds s → w ≡ within field_kinds s
  is_wanted {s} h = told ∙ joins_told field_kinds s kinds 65 h.left field_wanted

  pub unmet : w ≡ false → GivesField shapes pool row kinds k place (Err (record { cause = cause.UnwantedKind; place = place }))
  unmet e p deep n s h = field_unmet place n s (sym (is_wanted h.bound) ∙ e)

  module _ (met : w ≡ true) {t : Bool} (has_told : t ≡ has_bit kinds 64) where
    pub without : t ≡ false → GivesField shapes pool row kinds k place (Err (record { cause = cause.UnlistedName; place = place }))
    without e p deep n s h =
        field_nothing place n s (sym (is_wanted h.bound) ∙ met) (rec_lacks s (sym (rec_left h.bound) ∙ sym has_told ∙ e))

    module _ (there : t ≡ true) where
      fields : {p : List ℕ} {deep : ℕ} {s : Shape} → Bound shapes p deep row kinds s → (fs : Fields) × (record_of s ≡ rec_of fs)
      fields {s} h = rec_there s (sym (rec_left h) ∙ sym has_told ∙ there)

      pub members_before
          : FieldAsked shapes pool row kinds k
          → (row + 2 ≤ length shapes) × (members_at shapes row ≤ row + size_at shapes row) × (row + size_at shapes row ≤ length shapes)
      members_before h =
          let b = h.meets.bound in
          let f = fields b in
          (stands_row b.stands, omega (arith, (bound_members b f.0 f.1).stand.reaches), row_ends b)

      module _ {from size : ℕ} (begun : from ≡ members_at shapes row) (wide : size ≡ size_at shapes row) where
        lists
            : {p : List ℕ} {deep : ℕ} {n : Bytes} {s : Shape} (h : MeetsField shapes pool p deep row kinds k n s)
            → Listed shapes pool from (row + size) p (fields h.bound).0
        lists h =
            record {
              stand = rw (begun, wide) (bound_members h.bound (fields h.bound).0 (fields h.bound).1).stand;
              front = h.pooled.front;
              small = h.pooled.small;
            }

        pub listed_asked : FieldAsked shapes pool row kinds k → SomeListed shapes pool from (row + size)
        listed_asked h = record { used = h.p; fields = (fields h.meets.bound).0; listed = lists h.meets }

        module _ {r : Option ℕ} (finds : Names shapes from (row + size) pool k r) where
          tells
              : (x : Option ℕ) → r ≡ x → {p : List ℕ} {deep : ℕ} {n : Bytes} {s : Shape} (h : MeetsField shapes pool p deep row kinds k n s)
              → Tells shapes p (row + size) n (fields h.bound).0 x
          tells x e {p} {n} h =
              let fs = (fields h.bound).0 in
              let named : text_in pool (k % 65536) (k / 65536) ≡ n
              = text_referred pool h.pooled.front h.pooled.small h.refers in
              subst
              (λ (y : Option ℕ). Tells shapes p (row + size) n fs y)
              e
              (subst (λ (t : Bytes). Tells shapes p (row + size) t fs r) named (finds p fs (lists h)))

          pub member_missing : r ≡ None → GivesField shapes pool row kinds k place (Err (record { cause = cause.UnlistedName; place = place }))
          member_missing e p deep n s h =
              field_missing place n s (sym (is_wanted h.bound) ∙ met) (fields h.bound).0 (fields h.bound).1 (tells None e h)

          pub member_found
              : {at left : ℕ} {given : bits.Shape} → r ≡ Some at → left ≡ get_or shapes at 0 % 128 → TellsGain left kinds given.kinds
              → GivesField shapes pool row kinds k place (Ok (record { row = at; kinds = given }))
          member_found {at} e l gains p deep n s h =
              let f = fields h.bound in
              let g = tells (Some at) e h in
              let b = found_bound n (bound_members h.bound f.0 f.1) g.found g.stands in (
                gain_null (has Kind.null s) g.shape,
                field_found place n s (sym (is_wanted h.bound) ∙ met) f.0 g.shape f.1 g.found,
                rw (gains s g.shape (l ∙ sym b.left) (sym h.bound.left)) (bound_gained (has Kind.null s) b),
              )
