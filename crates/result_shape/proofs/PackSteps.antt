-- `pack`: its results joined into the members of a shape, and null for those that it lacks. Assumes nothing.
use Prim.Native.Nat.{ℕ, ◌+◌, ◌*◌, ◌%◌, ◌^◌, ◌≤◌, ◌<◌}
use native.Mathlib.Omega.{arith}
use mathlib.Core.Path.{◌≡◌, sym, ap, subst, ◌∙◌}
use mathlib.Core.Bool.{Bool}
use mathlib.Core.List.{List, ◌∷◌, ◌++◌}
use lib.Bits.{bit_or}
use lib.ListN.{length, get_or, take, drop}
use Rattle.definitions.specs.Bytes.{Bytes}
use Rattle.definitions.specs.Shape.{Shape, Fields, has_rec, record_of, forms, forms_fields}
use Rattle.definitions.specs.Join.{join}
use Rattle.definitions.specs.Reader.{Result}
use Rattle.laws.specs.OrderInduction.{ascending_of_record}
use Rattle.shapes.specs.Shapes.{has_bit, head_of, size_at, members_at, FieldRows}
use Rattle.join.specs.Replacing.{Put, Over}
use Rattle.std.specs.Prelude.{Option}
use Rattle.std.specs.Prelude.{Some, None}
use Rattle.growing.specs.Growing.{fields_start, member_start, null_others, with_fields, named, join_in}
use Rattle.growing.specs.GrowingForms.{forms_others}
use Rattle.growing.specs.GrowingLaws.{fields_start_ascending, fields_are}
use Rattle.growing.specs.Rows.{Room, FieldsBecome, Nullable, Nulls}
use Rattle.growing.specs.HeadLaws.{bits_with_fields, Risen, risen_fits, risen_put}
use Rattle.growing.specs.RecordLaws.{had_told, record_meets, record_over, nulls_meet, nulls_room, record_risen}
use Rattle.forms.specs.Forms.{PairsStand}
use Rattle.forms.specs.FormsLaws.{stands_code}
use Rattle.forms.specs.PartsLaws.{after}
use Rattle.result_shape.specs.ResultsLaws.{given_named, given_rising, given_apart, bindings_ascend}
use Rattle.result_shape.specs.Giving.{Tables, MeetsResult, ResultAsked, GivesResult, MeetsPack, PackAsked, GivesPack, PairsThere}
use Rattle.result_shape.proofs.Parts.{PackParts, pack_parts}
use Rattle.result_shape.proofs.Steps.{tables_room, becomes_as}

module _
    {table shapes pool bindings result : List ℕ} {row d used dest deep : ℕ} {had : Bool} {kinds first last end : ℕ} (tables : Tables shapes result used)
    (code : get_or table row 0 % 32 ≡ 17)
    (kinds_are : kinds ≡ get_or result dest 0 % 128)
    (had_is : had ≡ has_bit kinds 64)
    (first_is : first ≡ members_at result dest)
    (last_is : last ≡ dest + size_at result dest)
    (end_is : end ≡ after table row)
  where
    module _
        {p : List ℕ} {m : ℕ} {r : Result} {env : List Shape} {t : Shape} {name : ℕ} {s : Shape}
        (j : MeetsResult table shapes pool bindings result p row d used dest m deep r env t name s)
      where
        abbrev parts : PackParts table shapes pool bindings p row d deep env t
        parts = pack_parts r j.form j.gives j.once (sym (stands_code j.form.stands) ∙ code)

        had_rec : had ≡ has_rec (record_of s)
        had_rec = had_told j.stands kinds_are had_is

        abbrev shapes_given : Fields
        shapes_given = parts.gives.shapes

        abbrev there : Bytes → Bool
        there = named shapes_given

        abbrev olds : Fields
        olds = fields_start (record_of s)

        abbrev joined : Fields
        joined = join_in shapes_given (member_start had) olds

        abbrev reached : Fields
        reached = null_others had there joined

        into_is : with_fields reached s ≡ join s t
        into_is =
            sym
            (ap (join s) parts.gives.same
            ∙ fields_are shapes_given s (given_rising (bindings_ascend j.form.bound) parts.gives.given)
            (given_apart parts.gives.given parts.once)
            j.ascends
            ∙ ap (λ (x : Bool). with_fields (null_others x there (join_in shapes_given (member_start x) olds)) s) (sym had_rec))

        meets_pack : MeetsPack table shapes pool bindings result p (row + 3) end d used first last deep parts.pairs env shapes_given olds
        meets_pack =
            record {
              pairs =
                  record {
                    pooled = parts.meets.pooled;
                    stand = subst (λ (x : ℕ). PairsStand table p (row + 3) x d parts.pairs) (sym end_is) parts.meets.stand;
                    bound = parts.meets.bound;
                    room = parts.meets.room;
                  };
              given = parts.gives.given;
              once = parts.once;
              fields = record_meets j.form.pooled j.stands j.within (tables_room tables) had_rec first_is last_is;
              ascend = fields_start_ascending (record_of s) (ascending_of_record s j.ascends);
            }

        there_is : PairsThere table (row + 3) end p there
        there_is =
            record {
              bound = d;
              pairs = parts.pairs;
              stand = meets_pack.pairs.stand;
              tells = given_named parts.gives.given;
            }

    pub pack_asked
        : ResultAsked table shapes pool bindings result row d used dest deep
        → PackAsked table shapes pool bindings result (row + 3) end d used first last deep
    pack_asked w =
        let j = w.meets in
        record {
          p = w.p;
          pairs = (parts j).pairs;
          env = w.env;
          given = shapes_given j;
          olds = olds j;
          meets = meets_pack j;
        }

    module _ (result₁ : List ℕ) (o₁ : Option ℕ) (q₁ : GivesPack table shapes pool bindings result result₁ (row + 3) end d used first last deep had o₁) where
      become₁
          : {p : List ℕ} {m : ℕ} {r : Result} {env : List Shape} {t : Shape} {name : ℕ} {s : Shape}
          (j : MeetsResult table shapes pool bindings result p row d used dest m deep r env t name s)
          → FieldsBecome result result₁ p used first (olds j) (joined j) o₁
      become₁ {p} {env = env} j = q₁ p (parts j).pairs env (shapes_given j) (olds j) (meets_pack j)

      pub pack_full : o₁ ≡ None → GivesResult table shapes pool bindings result result₁ row d used dest deep None
      pack_full e p m r env t name s j =
          subst
          (λ (u : Shape). Over result result₁ used (2 * forms s) (2 * forms u))
          (into_is j)
          (record_over j.form.pooled j.stands j.within (tables_room tables) (had_rec j) first_is last_is (joined j) (reached j)
          (forms_others had (there j) (joined j))
          (subst (λ (x : Option ℕ). FieldsBecome result result₁ p used first (olds j) (joined j) x) e (become₁ j)))

      module _ {words : ℕ} (e₁ : o₁ ≡ Some words) where
        put₁
            : {p : List ℕ} {m : ℕ} {r : Result} {env : List Shape} {t : Shape} {name : ℕ} {s : Shape}
            (j : MeetsResult table shapes pool bindings result p row d used dest m deep r env t name s)
            → Put result result₁ used words first (2 * forms_fields (olds j)) (FieldRows p (joined j))
        put₁ {p} j = subst (λ (x : Option ℕ). FieldsBecome result result₁ p used first (olds j) (joined j) x) e₁ (become₁ j)

        pub pack_nulls
            : ResultAsked table shapes pool bindings result row d used dest deep
            → Nullable (PairsThere table (row + 3) end) result₁ pool (used + words) first (last + words)
        pack_nulls w =
            let j = w.meets in
            record {
              part = w.p;
              fields = joined j;
              there = there j;
              meets = nulls_meet j.form.pooled j.stands j.within (tables_room tables) (had_rec j) first_is last_is (joined j) (put₁ j);
              tells = there_is j;
            }

        pub pack_room : ResultAsked table shapes pool bindings result row d used dest deep → Room result₁ (used + words)
        pack_room w =
            let j = w.meets in nulls_room j.form.pooled j.stands j.within (tables_room tables) (had_rec j) first_is last_is (joined j) (put₁ j)

        pub pack_grown : ResultAsked table shapes pool bindings result row d used dest deep → (used + words ≤ 65536) × (last ≤ used)
        pack_grown w = (omega (arith, (put₁ w.meets).replaced.within, tables.small), (meets_pack w.meets).fields.within)

        module _ (result₂ : List ℕ) (q₂ : Nulls (PairsThere table (row + 3) end) result₁ pool result₂ (used + words) first (last + words) had) where
          risen
              : {p : List ℕ} {m : ℕ} {r : Result} {env : List Shape} {t : Shape} {name : ℕ} {s : Shape}
              (j : MeetsResult table shapes pool bindings result p row d used dest m deep r env t name s)
              → Risen result result₂ p used dest name s (with_fields (reached j) s) words
          risen {p} j =
              record_risen j.form.pooled j.stands j.within (tables_room tables) (had_rec j) first_is last_is (joined j) (put₁ j) (reached j)
              (forms_others had (there j) (joined j))
              (q₂ p (joined j) (there j)
              (nulls_meet j.form.pooled j.stands j.within (tables_room tables) (had_rec j) first_is last_is (joined j) (put₁ j)) (there_is j))

          pub pack_raise
              : ResultAsked table shapes pool bindings result row d used dest deep
              → (dest < length result₂) × (head_of (bit_or (get_or result₂ dest 0 % 128) 64) (size_at result₂ dest + words) < 2 ^ 64)
          pack_raise w = risen_fits 64 (risen w.meets) (bits_with_fields (reached w.meets) w.old) (tables_room tables).small

          pub pack_answer
              : {result₃ : List ℕ}
              → result₃
              ≡ take dest result₂ ++ head_of (bit_or (get_or result₂ dest 0 % 128) 64) (size_at result₂ dest + words) ∷ drop (dest + 1) result₂
              → length result₃ ≡ length result₂ → GivesResult table shapes pool bindings result result₃ row d used dest deep (Some words)
          pack_answer {result₃} e l p m r env t name s j =
              becomes_as result result₃ p used dest name s (Some words) (into_is j) (risen_put 64 (risen j) (bits_with_fields (reached j) s) e l)
