-- A member joined into the members of a shape: into the one of its name, or into a new one. Assumes nothing.
use Prim.Native.Nat.{ℕ, ◌+◌, ◌≤◌}
use mathlib.Core.Path.{◌≡◌, sym, subst}
use mathlib.Core.Bool.{Bool, true, false}
use mathlib.Core.List.{List}
use lib.ListN.{length, get_or}
use Rattle.definitions.specs.Bytes.{Bytes}
use Rattle.definitions.specs.Value.{Value}
use Rattle.definitions.specs.Shape.{Shape, Fields, ascending_fields}
use Rattle.nodes.specs.Nodes.{Refers}
use Rattle.nodes.specs.StandingLaws.{value_name}
use Rattle.shapes.specs.Shapes.{kind_bits}
use Rattle.join.specs.Replacing.{Puts, Becomes}
use Rattle.std.specs.Prelude.{Option}
use Rattle.std.specs.Prelude.{Some, None}
use Rattle.growing.specs.Growing.{member_start}
use Rattle.growing.specs.GrowingLaws.{member_start_ascending}
use Rattle.growing.specs.Rows.{Room, NewRow, MeetsFields, Finds, FindsNamed}
use Rattle.growing.specs.MemberLaws.{listed_shape, listed_word, listed_stands, listed_within}
use Rattle.growing.specs.MemberLaws.{listed_ascends, listed_become, place_lacked, gap_inside, new_unready}
use Rattle.growing.specs.MemberLaws.{new_stands, new_within, new_room, new_over, new_put, row_put}
use Rattle.infer.specs.Infer.{infer_into}
use Rattle.infer.specs.Inferring.{Meets, Inferable, Infers, MeetsMember, MemberInferable, InfersMember}

-- what was found of a member's name, in the members that stand there
module _
    {shapes nodes pool : List ℕ} {used first last at : ℕ} (had : Bool) (room : Room shapes used) (o : Option ℕ)
    (found
    : (p : List ℕ) (fs : Fields) (n : Bytes) → MeetsFields shapes pool used first last p fs → ascending_fields fs ≡ true
    → Refers p n (get_or nodes (at + 2) 0) → FindsNamed shapes first last n p fs o)
  where
    module _ {p : List ℕ} {fs : Fields} {n : Bytes} {k : ℕ} {v : Value} (h : MeetsMember shapes nodes pool used first last at p fs n k v) where
      name_is : get_or nodes (at + 2) 0 ≡ k
      name_is = value_name h.held

      refers_there : Refers p n (get_or nodes (at + 2) 0)
      refers_there = subst (λ (x : ℕ). Refers p n x) (sym name_is) h.refers

      its_name : FindsNamed shapes first last n p fs o
      its_name = found p fs n h.fields h.ascends refers_there

    module _ {row : ℕ} (there : o ≡ Some row) where
      place_there
          : {p : List ℕ} {fs : Fields} {n : Bytes} {k : ℕ} {v : Value} → MeetsMember shapes nodes pool used first last at p fs n k v
          → Finds shapes first last n p fs row true
      place_there {p} {fs} {n} h = subst (λ (x : Option ℕ). FindsNamed shapes first last n p fs x) there (its_name h)

      listed_meets
          : {p : List ℕ} {fs : Fields} {n : Bytes} {k : ℕ} {v : Value} (h : MeetsMember shapes nodes pool used first last at p fs n k v)
          → let f = place_there h in Meets shapes nodes pool used row at p (listed_word h.fields room f) (listed_shape h.fields room f) k v
      listed_meets h =
          let f = place_there h in
          record {
            pooled = h.fields.pooled;
            stands = listed_stands h.fields room f;
            within = listed_within h.fields room f;
            held = h.held;
            bounded = h.bounded;
            ascends = listed_ascends h.fields room f h.ascends;
            once = h.once;
          }

      pub listed_inferable : MemberInferable shapes nodes pool used first last at → Inferable shapes nodes pool used row at
      listed_inferable w =
          record {
            part = w.part;
            name = listed_word w.meets.fields room (place_there w.meets);
            old = listed_shape w.meets.fields room (place_there w.meets);
            label = w.word;
            value = w.value;
            meets = listed_meets w.meets;
          }

      pub listed_answer
          : (shapes' : List ℕ) (o : Option ℕ) → Infers shapes nodes pool shapes' used row at o
          → InfersMember shapes nodes pool shapes' used first last at had o
      listed_answer shapes' o q p fs n k v h =
          let f = place_there h in
          listed_become h.fields room f (member_start had) (λ (s : Shape). infer_into v s) shapes' o
          (q p (listed_word h.fields room f) (listed_shape h.fields room f) k v (listed_meets h))

    -- a name that is not listed is not found in its place
    pub never_placed
        : {row : ℕ} → o ≡ None → MemberInferable shapes nodes pool used first last at
        → ((p : List ℕ) (fs : Fields) (n : Bytes) → MeetsFields shapes pool used first last p fs → Refers p n (get_or nodes (at + 2) 0)
        → Finds shapes first last n p fs row true)
        → ⊥
    never_placed lacks w placed =
        let e : true ≡ false =
        place_lacked true w.meets.ascends (subst (λ (x : Option ℕ). FindsNamed shapes first last w.label w.part w.olds x) lacks (its_name w.meets))
        (placed w.part w.olds w.label w.meets.fields (refers_there w.meets)) in cc

    module _
        (lacks : o ≡ None) {row : ℕ}
        (placed
        : (p : List ℕ) (fs : Fields) (n : Bytes) → MeetsFields shapes pool used first last p fs → Refers p n (get_or nodes (at + 2) 0)
        → Finds shapes first last n p fs row false)
      where
        place_new
            : {p : List ℕ} {fs : Fields} {n : Bytes} {k : ℕ} {v : Value} → MeetsMember shapes nodes pool used first last at p fs n k v
            → Finds shapes first last n p fs row false
        place_new {p} {fs} {n} h = placed p fs n h.fields (refers_there h)

        pub new_inside : MemberInferable shapes nodes pool used first last at → row ≤ used
        new_inside w = gap_inside had (λ (s : Shape). infer_into w.value s) w.meets.fields w.meets.refers room (place_new w.meets)

        module _ {kinds : ℕ} (shapes₁ : List ℕ) (o₁ : Option ℕ) (told : kinds ≡ kind_bits (member_start had))
            (q₁ : Puts shapes shapes₁ used row 0 2 (NewRow kinds (get_or nodes (at + 2) 0)) o₁) where
          pub new_full_first : o₁ ≡ None → InfersMember shapes nodes pool shapes₁ used first last at had None
          new_full_first e p fs n k v h =
              new_unready had (λ (s : Shape). infer_into v s) h.fields h.refers room (place_new h)
              (subst (λ (x : Option ℕ). Puts shapes shapes₁ used row 0 2 (NewRow kinds (get_or nodes (at + 2) 0)) x) e q₁)

          module _ {opened : ℕ} (e₁ : o₁ ≡ Some opened) where
            new_meets
                : {p : List ℕ} {fs : Fields} {n : Bytes} {k : ℕ} {v : Value} → MeetsMember shapes nodes pool used first last at p fs n k v
                → Meets shapes₁ nodes pool (used + opened) row at p k (member_start had) k v
            new_meets {v = v} h =
                let g : Shape → Shape = λ s. infer_into v s in
                record {
                  pooled = h.fields.pooled;
                  stands =
                      new_stands had g h.fields h.refers room (place_new h) told (name_is h)
                      (row_put shapes shapes₁ used row kinds (get_or nodes (at + 2) 0) o₁ q₁ e₁);
                  within =
                      new_within had g h.fields h.refers room (place_new h) told (name_is h)
                      (row_put shapes shapes₁ used row kinds (get_or nodes (at + 2) 0) o₁ q₁ e₁);
                  held = h.held;
                  bounded = h.bounded;
                  ascends = member_start_ascending had;
                  once = h.once;
                }

            pub new_inferable : MemberInferable shapes nodes pool used first last at → Inferable shapes₁ nodes pool (used + opened) row at
            new_inferable w =
                record {
                  part = w.part;
                  name = w.word;
                  old = member_start had;
                  label = w.word;
                  value = w.value;
                  meets = new_meets w.meets;
                }

            pub new_room_then : MemberInferable shapes nodes pool used first last at → Room shapes₁ (used + opened)
            new_room_then w =
                new_room had (λ (s : Shape). infer_into w.value s) w.meets.fields w.meets.refers room (place_new w.meets)
                told (name_is w.meets)
                (row_put shapes shapes₁ used row kinds (get_or nodes (at + 2) 0) o₁ q₁ e₁)

            module _ (shapes₂ : List ℕ) (o₂ : Option ℕ) (q₂ : Infers shapes₁ nodes pool shapes₂ (used + opened) row at o₂) where
              become₂
                  : {p : List ℕ} {fs : Fields} {n : Bytes} {k : ℕ} {v : Value} (h : MeetsMember shapes nodes pool used first last at p fs n k v)
                  → Becomes shapes₁ shapes₂ p (used + opened) row k (member_start had) (infer_into v (member_start had)) o₂
              become₂ {p} {fs} {n} {k} {v} h =
                  q₂ p k (member_start had) k v (new_meets h)

              pub new_full_then : o₂ ≡ None → InfersMember shapes nodes pool shapes₂ used first last at had None
              new_full_then e p fs n k v h =
                  new_over had (λ (s : Shape). infer_into v s) h.fields h.refers room (place_new h) told (name_is h)
                  (row_put shapes shapes₁ used row kinds (get_or nodes (at + 2) 0) o₁ q₁ e₁)
                  (subst
                  (λ (x : Option ℕ). Becomes shapes₁ shapes₂ p (used + opened) row k (member_start had) (infer_into v (member_start had)) x)
                  e
                  (become₂ h))

              module _ {words : ℕ} (e₂ : o₂ ≡ Some words) where
                pub new_answer : InfersMember shapes nodes pool shapes₂ used first last at had (Some (opened + words))
                new_answer p fs n k v h =
                    new_put had (λ (s : Shape). infer_into v s) h.fields h.refers room (place_new h) told (name_is h)
                    (row_put shapes shapes₁ used row kinds (get_or nodes (at + 2) 0) o₁ q₁ e₁)
                    (subst
                    (λ (x : Option ℕ). Becomes shapes₁ shapes₂ p (used + opened) row k (member_start had) (infer_into v (member_start had)) x)
                    e₂
                    (become₂ h))

                pub new_grown : MemberInferable shapes nodes pool used first last at → used + (opened + words) ≤ length shapes
                new_grown w = (new_answer w.part w.olds w.label w.word w.value w.meets).replaced.within
