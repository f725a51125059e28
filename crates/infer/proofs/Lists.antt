-- A list joined into a shape: its elements into the shape's element. Assumes nothing.
use Prim.Native.Nat.{ℕ, ◌+◌, ◌*◌, ◌%◌, ◌^◌, ◌≤◌, ◌<◌}
use native.Mathlib.Omega.{arith}
use mathlib.Core.Path.{◌≡◌, refl, sym, ap, subst, ◌∙◌}
use mathlib.Core.Bool.{true}
use mathlib.Core.List.{List, ◌∷◌, ◌++◌}
use lib.Bits.{bit_or}
use lib.ListN.{length, get_or, take, drop}
use Rattle.definitions.specs.Value.{Value, Items}
use Rattle.definitions.specs.Shape.{Shape, element_of, forms, forms_element}
use Rattle.laws.specs.Distinct.{distinct, distinct_items}
use Rattle.laws.specs.OrderInduction.{ascending_of_element}
use Rattle.nodes.specs.Nodes.{row_size}
use Rattle.nodes.specs.Standing.{ValueStands, ItemsStand}
use Rattle.nodes.specs.StandingLaws.{list_stands as items_held}
use Rattle.plain.specs.Table.{BoundedNumbers, BoundedItems}
use Rattle.shapes.specs.Shapes.{head_of, size_at, ShapeRows}
use Rattle.join.specs.Replacing.{Put, Over, Becomes}
use Rattle.std.specs.Prelude.{Option}
use Rattle.std.specs.Prelude.{Some, None}
use Rattle.growing.specs.Growing.{element_start, with_element}
use Rattle.growing.specs.GrowingLaws.{element_start_ascending}
use Rattle.growing.specs.Rows.{Room, Readies}
use Rattle.growing.specs.HeadLaws.{bits_with_element, Risen, risen_fits, risen_put}
use Rattle.growing.specs.ElementLaws.{list_unready, list_stands, list_within, list_room, list_over, list_risen, ready_put, ready_full}
use Rattle.infer.specs.Infer.{infer_into, infer_items}
use Rattle.infer.specs.InferForms.{forms_infer_items}
use Rattle.infer.specs.Inferring.{Meets, Inferable, Infers, MeetsItems, ItemsInferable, InfersItems}
use Rattle.infer.proofs.Scalars.{kind_told}
use Rattle.infer.proofs.Into.{a_list}

into_list : (vs : Items) (s : Shape) → infer_into (Value.list vs) s ≡ with_element (infer_items vs (element_start (element_of s))) s
unfolding infer_into
into_list vs s = refl

module _
    {shapes nodes pool : List ℕ} {used row at : ℕ} {p : List ℕ} {m : ℕ} {s : Shape} {k : ℕ} {v : Value}
    (h : Meets shapes nodes pool used row at p m s k v)
    (room : Room shapes used)
    (list : get_or nodes at 0 % 8 ≡ 5)
  where
    abbrev pub items : Items
    items = (a_list v (kind_told h.held refl ∙ list)).0

    is_items : v ≡ Value.list items
    is_items = (a_list v (kind_told h.held refl ∙ list)).1

    abbrev pub start : Shape
    start = element_start (element_of s)

    abbrev pub reached : Shape
    reached = infer_items items start

    pub into_is : with_element reached s ≡ infer_into v s
    into_is = sym (ap (λ (x : Value). infer_into x s) is_items ∙ into_list items s)

    items_bounded : BoundedItems items
    unfolding BoundedNumbers
    items_bounded = subst BoundedNumbers is_items h.bounded

    items_once : distinct_items items ≡ true
    unfolding distinct
    items_once = ap distinct (sym is_items) ∙ h.once

    pub list_meets
        : {shapes₁ : List ℕ} {opened : ℕ}
        → Put shapes shapes₁ used opened (row + 2) (2 * forms_element (element_of s)) (ShapeRows p 0 start) → {end : ℕ} → end ≡ at + row_size nodes at
        → MeetsItems shapes₁ nodes pool (used + opened) (row + 2) (at + 3) end p 0 start items
    list_meets q e =
        record {
          pooled = h.pooled;
          stands = list_stands h.stands h.within room q;
          within = list_within h.stands h.within room q;
          held =
              subst (λ (x : ℕ). ItemsStand nodes p (at + 3) x items) (sym e)
              (items_held (subst (λ (x : Value). ValueStands nodes p at k x) is_items h.held));
          bounded = items_bounded;
          ascends = element_start_ascending (element_of s) (ascending_of_element s h.ascends);
          once = items_once;
        }

-- ---- the answers

module _ {shapes nodes pool : List ℕ} {used row at : ℕ} (room : Room shapes used) (list : get_or nodes at 0 % 8 ≡ 5) where
  module _ (shapes₁ : List ℕ) (o₁ : Option ℕ) (q₁ : Readies shapes shapes₁ used row o₁) where
    pub list_full_first : o₁ ≡ None → Infers shapes nodes pool shapes₁ used row at None
    list_full_first e p m s k v h =
        subst
        (λ (u : Shape). Over shapes shapes₁ used (2 * forms s) (2 * forms u))
        (into_is h room list)
        (list_unready h.stands h.within room (reached h room list) (forms_infer_items (items h room list) (start h room list))
        (ready_full shapes shapes₁ p used row s o₁ (q₁ p m s h.stands h.within) e))

    module _ {opened : ℕ} (e₁ : o₁ ≡ Some opened) where
      put₁
          : {p : List ℕ} {m : ℕ} {s : Shape} {k : ℕ} {v : Value} → Meets shapes nodes pool used row at p m s k v
          → Put shapes shapes₁ used opened (row + 2) (2 * forms_element (element_of s)) (ShapeRows p 0 (element_start (element_of s)))
      put₁ {p} {m} {s} h = ready_put shapes shapes₁ p used row s o₁ (q₁ p m s h.stands h.within) e₁

      pub list_inferable
          : {end : ℕ} → end ≡ at + row_size nodes at → Inferable shapes nodes pool used row at
          → ItemsInferable shapes₁ nodes pool (used + opened) (row + 2) (at + 3) end
      list_inferable e w =
          record {
            part = w.part;
            name = 0;
            old = start w.meets room list;
            items = items w.meets room list;
            meets = list_meets w.meets room list (put₁ w.meets) e;
          }

      pub list_room_then : Inferable shapes nodes pool used row at → Room shapes₁ (used + opened)
      list_room_then w = list_room w.meets.stands w.meets.within room (put₁ w.meets)

      module _
          {end : ℕ} (end_is : end ≡ at + row_size nodes at) (shapes₂ : List ℕ) (o₂ : Option ℕ)
          (q₂ : InfersItems shapes₁ nodes pool shapes₂ (used + opened) (row + 2) (at + 3) end o₂)
        where
          become₂
              : {p : List ℕ} {m : ℕ} {s : Shape} {k : ℕ} {v : Value} (h : Meets shapes nodes pool used row at p m s k v)
              → Becomes shapes₁ shapes₂ p (used + opened) (row + 2) 0 (start h room list) (reached h room list) o₂
          become₂ {p} h = q₂ p 0 (start h room list) (items h room list) (list_meets h room list (put₁ h) end_is)

          pub list_full_then : o₂ ≡ None → Infers shapes nodes pool shapes₂ used row at None
          list_full_then e p m s k v h =
              subst
              (λ (u : Shape). Over shapes shapes₂ used (2 * forms s) (2 * forms u))
              (into_is h room list)
              (list_over h.stands h.within room (put₁ h) (reached h room list)
              (subst
              (λ (x : Option ℕ). Becomes shapes₁ shapes₂ p (used + opened) (row + 2) 0 (start h room list) (reached h room list) x)
              e
              (become₂ h)))

          module _ {words : ℕ} (e₂ : o₂ ≡ Some words) where
            risen
                : {p : List ℕ} {m : ℕ} {s : Shape} {k : ℕ} {v : Value} (h : Meets shapes nodes pool used row at p m s k v)
                → Risen shapes shapes₂ p used row m s (with_element (reached h room list) s) (opened + words)
            risen {p} h =
                list_risen h.stands h.within room (put₁ h) (reached h room list)
                (subst
                (λ (x : Option ℕ). Becomes shapes₁ shapes₂ p (used + opened) (row + 2) 0 (start h room list) (reached h room list) x)
                e₂
                (become₂ h))

            pub list_raise_fits
                : Inferable shapes nodes pool used row at
                → (row < length shapes₂) × (head_of (bit_or (get_or shapes₂ row 0 % 128) 32) (size_at shapes₂ row + (opened + words)) < 2 ^ 64)
            list_raise_fits w =
                risen_fits 32 (risen w.meets) (bits_with_element (reached w.meets room list) w.old) room.small

            pub list_grown : Inferable shapes nodes pool used row at → used + (opened + words) ≤ length shapes
            list_grown w = omega (arith, (risen w.meets).split.fits, (risen w.meets).same)

            pub list_answer
                : {shapes₃ : List ℕ}
                → shapes₃
                ≡ take row shapes₂
                ++ head_of (bit_or (get_or shapes₂ row 0 % 128) 32) (size_at shapes₂ row + (opened + words))
                ∷ drop (row + 1) shapes₂
                → length shapes₃ ≡ length shapes₂ → Infers shapes nodes pool shapes₃ used row at (Some (opened + words))
            list_answer {shapes₃} e l p m s k v h =
                subst
                (λ (u : Shape). Put shapes shapes₃ used (opened + words) row (2 * forms s) (ShapeRows p m u))
                (into_is h room list)
                (risen_put 32 (risen h) (bits_with_element (reached h room list) s) e l)
