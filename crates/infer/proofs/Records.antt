-- A record joined into a shape: its members into the shape's members. Assumes nothing.
use Prim.Native.Nat.{ℕ, ◌+◌, ◌*◌, ◌%◌, ◌^◌, ◌≤◌, ◌<◌}
use mathlib.Core.Path.{◌≡◌, refl, sym, ap, subst, ◌∙◌}
use mathlib.Core.Bool.{Bool, true}
use mathlib.Core.List.{List, ◌∷◌, ◌++◌}
use lib.Bits.{bit_or}
use lib.ListN.{length, get_or, take, drop}
use Rattle.definitions.specs.Bytes.{Bytes}
use Rattle.definitions.specs.Value.{Value, Members, has_name}
use Rattle.definitions.specs.Shape.{Shape, Fields, has_rec, record_of, ascending_fields, forms, forms_fields}
use Rattle.laws.specs.Distinct.{distinct, distinct_members}
use Rattle.laws.specs.OrderInduction.{ascending_of_record}
use Rattle.nodes.specs.Nodes.{row_size}
use Rattle.nodes.specs.Standing.{ValueStands, MembersStand}
use Rattle.nodes.specs.StandingLaws.{rec_stands}
use Rattle.plain.specs.Table.{BoundedNumbers, BoundedMembers}
use Rattle.shapes.specs.Shapes.{has_bit, head_of, size_at, members_at, ShapeRows, FieldRows}
use Rattle.join.specs.Replacing.{Put, Over}
use Rattle.std.specs.Prelude.{Option}
use Rattle.std.specs.Prelude.{Some, None}
use Rattle.growing.specs.Growing.{fields_start, member_start, null_others, with_fields}
use Rattle.growing.specs.GrowingForms.{forms_others}
use Rattle.growing.specs.GrowingLaws.{fields_start_ascending, member_start_ascending}
use Rattle.growing.specs.Rows.{Room, FieldsBecome, Nullable}
use Rattle.growing.specs.HeadLaws.{bits_with_fields, Risen, risen_fits, risen_put}
use Rattle.growing.specs.RecordLaws.{had_told, record_meets, record_over, nulls_meet, nulls_room, record_risen}
use Rattle.infer.specs.Infer.{infer_into, infer_members}
use Rattle.infer.specs.InferLaws.{members_listed}
use Rattle.infer.specs.Inferring.{Meets, Inferable, Infers, MeetsMembers, MembersInferable, InfersMembers, MembersThere, NullsOthers}
use Rattle.infer.proofs.Scalars.{kind_told}
use Rattle.infer.proofs.Into.{a_record}

into_record
    : (ms : Members) (s : Shape)
    → infer_into (Value.rec ms) s
    ≡ with_fields
    (null_others (has_rec (record_of s)) (λ (n : Bytes). has_name n ms)
    (infer_members ms (member_start (has_rec (record_of s))) (fields_start (record_of s))))
    s
unfolding infer_into
into_record ms s = refl

module _
    {shapes nodes pool : List ℕ} {used row at : ℕ} {had : Bool} {kinds first last end : ℕ} (room : Room shapes used)
    (record_kind : get_or nodes at 0 % 8 ≡ 6)
    (kinds_are : kinds ≡ get_or shapes row 0 % 128)
    (had_is : had ≡ has_bit kinds 64)
    (first_is : first ≡ members_at shapes row)
    (last_is : last ≡ row + size_at shapes row)
    (end_is : end ≡ at + row_size nodes at)
  where
    module _ {p : List ℕ} {m : ℕ} {s : Shape} {k : ℕ} {v : Value} (h : Meets shapes nodes pool used row at p m s k v) where
      had_rec : had ≡ has_rec (record_of s)
      had_rec = had_told h.stands kinds_are had_is

      abbrev members : Members
      members = (a_record v (kind_told h.held refl ∙ record_kind)).0

      is_members : v ≡ Value.rec members
      is_members = (a_record v (kind_told h.held refl ∙ record_kind)).1

      abbrev there : Bytes → Bool
      there = λ (n : Bytes). has_name n members

      abbrev olds : Fields
      olds = fields_start (record_of s)

      abbrev joined : Fields
      joined = infer_members members (member_start had) olds

      abbrev reached : Fields
      reached = null_others had there joined

      into_is : with_fields reached s ≡ infer_into v s
      into_is =
          sym
          (ap (λ (x : Value). infer_into x s) is_members
          ∙ into_record members s
          ∙ ap (λ (x : Bool). with_fields (null_others x there (infer_members members (member_start x) olds)) s) (sym had_rec))

      bounded : BoundedMembers members
      unfolding BoundedNumbers
      bounded = subst BoundedNumbers is_members h.bounded

      stand : MembersStand nodes p (at + 3) end members
      stand =
          subst
          (λ (x : ℕ). MembersStand nodes p (at + 3) x members)
          (sym end_is)
          (rec_stands (subst (λ (x : Value). ValueStands nodes p at k x) is_members h.held))

      olds_ascend : ascending_fields olds ≡ true
      olds_ascend = fields_start_ascending (record_of s) (ascending_of_record s h.ascends)

      members_once : distinct_members members ≡ true
      unfolding distinct
      members_once = ap distinct (sym is_members) ∙ h.once

      meets_members : MeetsMembers shapes nodes pool used first last (at + 3) end p olds members
      meets_members =
          record {
            fields = record_meets h.pooled h.stands h.within room had_rec first_is last_is;
            held = stand;
            bounded = bounded;
            ascends = olds_ascend;
            once = members_once;
          }

      there_is : MembersThere nodes (at + 3) end p there
      there_is = record { members = members; held = stand; tells = λ n. refl }

    pub record_inferable
        : Inferable shapes nodes pool used row at → MembersInferable shapes nodes pool used first last (at + 3) end
    record_inferable w =
        record {
          part = w.part;
          olds = olds w.meets;
          members = members w.meets;
          meets = meets_members w.meets;
        }

    module _ (shapes₁ : List ℕ) (o₁ : Option ℕ) (q₁ : InfersMembers shapes nodes pool shapes₁ used first last (at + 3) end had o₁) where
      become₁
          : {p : List ℕ} {m : ℕ} {s : Shape} {k : ℕ} {v : Value} (h : Meets shapes nodes pool used row at p m s k v)
          → FieldsBecome shapes shapes₁ p used first (olds h) (joined h) o₁
      become₁ {p} h = q₁ p (olds h) (members h) (meets_members h)

      pub record_full : o₁ ≡ None → Infers shapes nodes pool shapes₁ used row at None
      record_full e p m s k v h =
          subst
          (λ (u : Shape). Over shapes shapes₁ used (2 * forms s) (2 * forms u))
          (into_is h)
          (record_over h.pooled h.stands h.within room (had_rec h) first_is last_is (joined h) (reached h)
          (forms_others had (there h) (joined h))
          (subst (λ (x : Option ℕ). FieldsBecome shapes shapes₁ p used first (olds h) (joined h) x) e (become₁ h)))

      module _ {words : ℕ} (e₁ : o₁ ≡ Some words) where
        put₁
            : {p : List ℕ} {m : ℕ} {s : Shape} {k : ℕ} {v : Value} (h : Meets shapes nodes pool used row at p m s k v)
            → Put shapes shapes₁ used words first (2 * forms_fields (olds h)) (FieldRows p (joined h))
        put₁ {p} h = subst (λ (x : Option ℕ). FieldsBecome shapes shapes₁ p used first (olds h) (joined h) x) e₁ (become₁ h)

        pub record_nulls
            : Inferable shapes nodes pool used row at
            → Nullable (MembersThere nodes (at + 3) end) shapes₁ pool (used + words) first (last + words)
        record_nulls w =
            let h = w.meets in
            record {
              part = w.part;
              fields = joined h;
              there = there h;
              meets = nulls_meet h.pooled h.stands h.within room (had_rec h) first_is last_is (joined h) (put₁ h);
              tells = there_is h;
            }

        pub record_room : Inferable shapes nodes pool used row at → Room shapes₁ (used + words)
        record_room w =
            let h = w.meets in nulls_room h.pooled h.stands h.within room (had_rec h) first_is last_is (joined h) (put₁ h)

        pub record_grown : Inferable shapes nodes pool used row at → (used + words ≤ length shapes) × (last ≤ used)
        record_grown w = ((put₁ w.meets).replaced.within, (meets_members w.meets).fields.within)

        module _ (shapes₂ : List ℕ) (q₂ : NullsOthers shapes₁ nodes pool shapes₂ (used + words) first (last + words) (at + 3) end had) where
          risen
              : {p : List ℕ} {m : ℕ} {s : Shape} {k : ℕ} {v : Value} (h : Meets shapes nodes pool used row at p m s k v)
              → Risen shapes shapes₂ p used row m s (with_fields (reached h) s) words
          risen {p} h =
              record_risen h.pooled h.stands h.within room (had_rec h) first_is last_is (joined h) (put₁ h) (reached h)
              (forms_others had (there h) (joined h))
              (q₂ p (joined h) (members h)
              (nulls_meet h.pooled h.stands h.within room (had_rec h) first_is last_is (joined h) (put₁ h)) (stand h) (members_once h)
              (members_listed (members h) (member_start had) (olds h) (member_start_ascending had) (olds_ascend h) (members_once h)))

          pub record_raise_fits
              : Inferable shapes nodes pool used row at
              → (row < length shapes₂) × (head_of (bit_or (get_or shapes₂ row 0 % 128) 64) (size_at shapes₂ row + words) < 2 ^ 64)
          record_raise_fits w = risen_fits 64 (risen w.meets) (bits_with_fields (reached w.meets) w.old) room.small

          pub record_answer
              : {shapes₃ : List ℕ}
              → shapes₃
              ≡ take row shapes₂ ++ head_of (bit_or (get_or shapes₂ row 0 % 128) 64) (size_at shapes₂ row + words) ∷ drop (row + 1) shapes₂
              → length shapes₃ ≡ length shapes₂ → Infers shapes nodes pool shapes₃ used row at (Some words)
          record_answer {shapes₃} e l p m s k v h =
              subst
              (λ (u : Shape). Put shapes shapes₃ used words row (2 * forms s) (ShapeRows p m u))
              (into_is h)
              (risen_put 64 (risen h) (bits_with_fields (reached h) s) e l)
