-- Members joined into the members of a shape one after the other. Assumes nothing.
use Prim.Native.Nat.{ℕ, ◌+◌, ◌*◌, ◌≤◌, ◌<◌}
use native.Mathlib.Omega.{arith}
use mathlib.Core.Path.{◌≡◌, refl, sym, ap, subst, ◌∙◌}
use mathlib.Core.Bool.{Bool, true, not}
use mathlib.Core.List.{List}
use lib.ListN.{length, take, drop}
use Rattle.definitions.specs.Bytes.{Bytes}
use Rattle.definitions.specs.Value.{Value, Members, member, has_name}
use Rattle.definitions.specs.Shape.{Shape, Fields, ascending_fields, forms_fields}
use Rattle.laws.specs.Bools.{and_three}
use Rattle.laws.specs.Distinct.{distinct, distinct_members}
use Rattle.nodes.specs.Nodes.{row_size}
use Rattle.nodes.specs.Standing.{MembersStand, FirstMember}
use Rattle.nodes.specs.StandingLaws.{size_some, value_size, value_within, first_member, no_member_left}
use Rattle.plain.specs.Table.{BoundedNumbers, BoundedMembers}
use Rattle.shapes.specs.Shapes.{FieldRows, FieldsStand}
use Rattle.shapes.specs.ShapesLaws.{length_field_rows, fields_end}
use Rattle.join.specs.Replacing.{Put, Over}
use Rattle.join.specs.ReplacingLaws.{Split, split_fields, replaced_split}
use Rattle.std.specs.Prelude.{Option}
use Rattle.std.specs.Prelude.{Some, None}
use Rattle.growing.specs.Growing.{member_start, place}
use Rattle.growing.specs.GrowingLaws.{member_start_ascending}
use Rattle.growing.specs.Rows.{Room, FieldsBecome}
use Rattle.growing.specs.StepLaws.{replaced_then, fields_split}
use Rattle.growing.specs.NullLaws.{nulls_none}
use Rattle.infer.specs.Infer.{infer_into, infer_members}
use Rattle.infer.specs.InferForms.{forms_infer_members}
use Rattle.infer.specs.InferLaws.{placed_ascending}
use Rattle.infer.specs.Inferring.{MeetsMember, MemberInferable, InfersMember, MeetsMembers, MembersInferable, InfersMembers}

pub record MembersGoing
    (shapes₀ nodes : List ℕ) (used first end : ℕ) (had : Bool) (p : List ℕ) (fs : Fields) (ms : Members) (shapes : List ℕ) (i grown : ℕ) : Type 0 where
  pub reached : Fields
  pub left : Members
  pub put : Put shapes₀ shapes used grown first (2 * forms_fields fs) (FieldRows p reached)
  pub held : MembersStand nodes p i end left
  pub bounded : BoundedMembers left
  pub ascends : ascending_fields reached ≡ true
  pub once : distinct_members left ≡ true
  pub same : infer_members ms (member_start had) fs ≡ infer_members left (member_start had) reached

pub record MembersLoop (shapes₀ nodes pool : List ℕ) (used first last at end : ℕ) (had : Bool) (shapes : List ℕ) (i grown : ℕ) : Type 0 where
  pub same : length shapes ≡ length shapes₀
  pub ahead : at ≤ i
  pub going
      : (p : List ℕ) (fs : Fields) (ms : Members) → MeetsMembers shapes₀ nodes pool used first last at end p fs ms
      → MembersGoing shapes₀ nodes used first end had p fs ms shapes i grown

pub members_begin
    : (shapes nodes pool : List ℕ) (used first last at end : ℕ) (had : Bool) → used ≤ length shapes
    → MembersLoop shapes nodes pool used first last at end had shapes at 0
members_begin shapes nodes pool used first last at end had j =
    record {
      same = refl;
      ahead = omega arith;
      going = λ p fs ms h.
          record {
            reached = fs;
            left = ms;
            put = nulls_none h.fields.stand h.fields.begins h.fields.within j;
            held = h.held;
            bounded = h.bounded;
            ascends = h.ascends;
            once = h.once;
            same = refl;
          };
    }

bounded_first : (n : Bytes) (v : Value) (ms ns : Members) → ns ≡ member n v ms → BoundedMembers ns → BoundedNumbers v × BoundedMembers ms
unfolding BoundedNumbers
bounded_first n v ms ns e b = subst BoundedMembers e b

once_first
    : (n : Bytes) (v : Value) (ms ns : Members) → ns ≡ member n v ms → distinct_members ns ≡ true
    → (distinct v ≡ true) × (distinct_members ms ≡ true)
unfolding distinct
once_first n v ms ns e d =
    let both = and_three (not (has_name n ms)) (distinct v) (distinct_members ms) (ap distinct_members (sym e) ∙ d) in (both.1, both.2)

inferred_first
    : (n : Bytes) (v : Value) (ms ns : Members) (st : Shape) (fs : Fields) → ns ≡ member n v ms
    → infer_members ns st fs ≡ infer_members ms st (place n st (λ s. infer_into v s) fs)
unfolding infer_into
inferred_first n v ms ns st fs e = ap (λ (x : Members). infer_members x st fs) e

module _
    {shapes₀ nodes pool : List ℕ} {used first last at end : ℕ} {had : Bool} {shapes : List ℕ} {i grown : ℕ}
    (room : Room shapes₀ used)
    (l : MembersLoop shapes₀ nodes pool used first last at end had shapes i grown)
    (more : i < end)
  where
    module _ {p : List ℕ} {fs : Fields} {ms : Members} (h : MeetsMembers shapes₀ nodes pool used first last at end p fs ms) where
      abbrev pub here : MembersGoing shapes₀ nodes used first end had p fs ms shapes i grown
      here = l.going p fs ms h

      abbrev pub next : FirstMember nodes p i end here.left
      next = first_member here.held more

      counts : 2 * forms_fields here.reached ≡ 2 * forms_fields fs + grown
      counts = sym (length_field_rows here.put.encoded) ∙ here.put.replaced.grown

      entry_split
          : Split
          shapes₀
          used
          first
          (2 * forms_fields fs)
          (take first shapes₀)
          h.fields.stand.rows
          (drop last (take used shapes₀))
      entry_split = fields_split h.fields.stand h.fields.begins h.fields.within room.enough

      now_split
          : Split
          shapes
          (used + grown)
          first
          (2 * forms_fields fs + grown)
          (take first shapes₀)
          here.put.rows
          (drop last (take used shapes₀))
      now_split = replaced_split entry_split here.put.replaced

      next_once : (distinct next.value ≡ true) × (distinct_members next.others ≡ true)
      next_once = once_first next.name next.value next.others here.left next.same here.once

      pub members_meet
          : MeetsMember shapes nodes pool (used + grown) first (last + grown) i p here.reached next.name next.word next.value
      members_meet =
          record {
            fields =
                record {
                  pooled = h.fields.pooled;
                  stand =
                      subst
                      (λ (x : ℕ). FieldsStand shapes p first x here.reached)
                      (let e : first + (2 * forms_fields fs + grown) ≡ last + grown = omega (arith, fields_end h.fields.stand) in e)
                      (split_fields now_split here.put.encoded);
                  begins = omega (arith, h.fields.begins);
                  within = omega (arith, h.fields.within);
                };
            refers = next.refers;
            held = next.stands;
            bounded = (bounded_first next.name next.value next.others here.left next.same here.bounded).0;
            ascends = here.ascends;
            once = next_once.0;
          }

      abbrev pub after : Fields
      after = place next.name (member_start had) (λ s. infer_into next.value s) here.reached

      after_same : infer_members ms (member_start had) fs ≡ infer_members next.others (member_start had) after
      after_same =
          here.same
          ∙ inferred_first next.name next.value next.others here.left (member_start had) here.reached next.same

      pub members_on
          : {shapes' : List ℕ} {words : ℕ}
          → Put shapes shapes' (used + grown) words first (2 * forms_fields here.reached) (FieldRows p after)
          → MembersGoing shapes₀ nodes used first end had p fs ms shapes' (i + row_size nodes i) (grown + words)
      members_on q =
          record {
            reached = after;
            left = next.others;
            put =
                record {
                  rows = q.rows;
                  encoded = q.encoded;
                  replaced = replaced_then entry_split here.put.replaced counts q.replaced;
                };
            held = next.more;
            bounded = (bounded_first next.name next.value next.others here.left next.same here.bounded).1;
            ascends =
                placed_ascending next.name next.value (member_start had) here.reached (member_start_ascending had) here.ascends next_once.0;
            once = next_once.1;
            same = after_same;
          }

      pub members_over
          : {shapes' : List ℕ} → Over shapes shapes' (used + grown) (2 * forms_fields here.reached) (2 * forms_fields after)
          → Over shapes₀ shapes' used (2 * forms_fields fs) (2 * forms_fields (infer_members ms (member_start had) fs))
      members_over o =
          record {
            over =
                omega (
                  arith,
                  o.over,
                  counts,
                  l.same,
                  forms_infer_members next.others (member_start had) after,
                  ap forms_fields after_same,
                );
            same = o.same ∙ l.same;
          }

      pub members_size : (3 ≤ row_size nodes i) × (i + row_size nodes i ≤ length nodes) × (i + row_size nodes i ≤ end)
      members_size = (
        omega (arith, value_size next.stands, size_some next.value),
        omega (arith, value_size next.stands, value_within next.stands),
        omega (arith, next.more.reaches),
      )

      -- its row is there
      pub members_row : i + 1 < length nodes
      members_row = omega (arith, members_size.0, members_size.1)

      pub members_room : used + grown ≤ length shapes₀
      members_room = here.put.replaced.within

    pub members_inferable
        : MembersInferable shapes₀ nodes pool used first last at end
        → MemberInferable shapes nodes pool (used + grown) first (last + grown) i
    members_inferable w =
        record {
          part = w.part;
          olds = (here w.meets).reached;
          label = (next w.meets).name;
          word = (next w.meets).word;
          value = (next w.meets).value;
          meets = members_meet w.meets;
        }

    pub members_full
        : (shapes' : List ℕ) (o : Option ℕ) → InfersMember shapes nodes pool shapes' (used + grown) first (last + grown) i had o → o ≡ None
        → InfersMembers shapes₀ nodes pool shapes' used first last at end had None
    members_full shapes' o q e p fs ms h =
        members_over h
        (subst
        (λ (x : Option ℕ). FieldsBecome shapes shapes' p (used + grown) first (here h).reached (after h) x)
        e
        (q p (here h).reached (next h).name (next h).word (next h).value (members_meet h)))

    module _
        (shapes' : List ℕ) (o : Option ℕ) {words : ℕ} (q : InfersMember shapes nodes pool shapes' (used + grown) first (last + grown) i had o)
        (e : o ≡ Some words)
      where
        put_now
            : {p : List ℕ} {fs : Fields} {ms : Members} (h : MeetsMembers shapes₀ nodes pool used first last at end p fs ms)
            → Put shapes shapes' (used + grown) words first (2 * forms_fields (here h).reached) (FieldRows p (after h))
        put_now {p} h =
            subst
            (λ (x : Option ℕ). FieldsBecome shapes shapes' p (used + grown) first (here h).reached (after h) x)
            e
            (q p (here h).reached (next h).name (next h).word (next h).value (members_meet h))

        pub members_loop_on
            : {n : ℕ} → n ≡ row_size nodes i → length shapes' ≡ length shapes
            → MembersLoop shapes₀ nodes pool used first last at end had shapes' (i + n) (grown + words)
        members_loop_on z c =
            record {
              same = c ∙ l.same;
              ahead = omega (arith, l.ahead);
              going = λ p fs ms h.
                  subst
                  (λ (x : ℕ). MembersGoing shapes₀ nodes used first end had p fs ms shapes' (i + x) (grown + words))
                  (sym z)
                  (members_on h (put_now h));
            }

        pub members_grown : MembersInferable shapes₀ nodes pool used first last at end → used + (grown + words) ≤ length shapes₀
        members_grown w = (members_on w.meets (put_now w.meets)).put.replaced.within

pub members_end
    : {shapes₀ nodes pool : List ℕ} {used first last at end : ℕ} {had : Bool} {shapes : List ℕ} {i grown : ℕ}
    → MembersLoop shapes₀ nodes pool used first last at end had shapes i grown → end ≤ i
    → InfersMembers shapes₀ nodes pool shapes used first last at end had (Some grown)
unfolding infer_into
members_end {had = had} l past p fs ms h =
    let g = l.going p fs ms h in
    let e : infer_members ms (member_start had) fs ≡ g.reached
    = g.same ∙ ap (λ (x : Members). infer_members x (member_start had) g.reached) (no_member_left g.held past) in
    record {
      rows = g.put.rows;
      encoded = subst (λ (x : Fields). FieldRows p x g.put.rows) (sym e) g.put.encoded;
      replaced = g.put.replaced;
    }
