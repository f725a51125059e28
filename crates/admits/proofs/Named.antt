-- The walk over the members of a record. Assumes nothing.
use Prim.Native.Nat.{ℕ, ◌+◌, ◌/◌, ◌%◌, ◌≤◌, ◌<◌}
use mathlib.Core.Path.{◌≡◌, refl, sym, ap, ◌∙◌, subst}
use mathlib.Core.Bool.{Bool, true, false, not, ◌&&◌}
use mathlib.Core.List.{List}
use mathlib.Core.Option.{Option, none}
use native.Mathlib.Omega.{arith}
use lib.ListN.{length, get_or}
use Rattle.definitions.specs.Bytes.{Bytes}
use Rattle.definitions.specs.Value.{Value, Members, member, has_name}
use Rattle.definitions.specs.Shape.{Shape, Fields, find}
use Rattle.definitions.specs.Admits.{admits, admitted, admitted_members}
use Rattle.laws.specs.Bools.{and_three}
use Rattle.laws.specs.Distinct.{distinct, distinct_members}
use Rattle.laws.specs.AdmitsParts.{admitted_by_listed, admitted_member}
use Rattle.pool.specs.Pool.{text_in}
use Rattle.nodes.specs.Nodes.{row_size}
use Rattle.nodes.specs.StandingLaws.{size_some, value_name, value_size, value_within, first_member, no_member_left, text_referred}
use Rattle.plain.specs.Table.{BoundedNumbers, BoundedMembers, Holds}
use Rattle.std.specs.Prelude as std
use Rattle.std.specs.Prelude.{Some, None}
use Rattle.shapes.specs.Members.{Tells, Found_at, Names}
use Rattle.shapes.specs.Held.{HoldsFields}
use Rattle.shapes.specs.HeldLaws.{found_held}
use Rattle.admits.specs.Admission.{HoldsMembers, ValueAsked, ValueTold, MembersAsked, MembersTold}
use Rattle.admits.proofs.Elements.{held_value}

-- ---- the first member

pub record First (nodes pool : List ℕ) (i end : ℕ) (ms : Members) : Type 0 where
  pub name : Bytes
  pub value : Value
  pub others : Members
  pub same : ms ≡ member name value others
  pub text : text_in pool (get_or nodes (i + 2) 0 % 65536) (get_or nodes (i + 2) 0 / 65536) ≡ name
  pub holds : Holds nodes pool i value
  pub wide : 3 ≤ row_size nodes i
  pub within : i + row_size nodes i ≤ length nodes
  pub inside : i + row_size nodes i ≤ end
  pub more : HoldsMembers nodes pool (i + row_size nodes i) end others

pub first : {nodes pool : List ℕ} {i end : ℕ} {ms : Members} → HoldsMembers nodes pool i end ms → i < end → First nodes pool i end ms
unfolding BoundedNumbers
first {pool} h more =
    let f = first_member h.stand more in
    let b : BoundedNumbers f.value × BoundedMembers f.others =
    subst (λ (ns : Members). BoundedMembers ns) f.same h.bounded in
    record {
      name = f.name;
      value = f.value;
      others = f.others;
      same = f.same;
      text =
          ap (λ (k : ℕ). text_in pool (k % 65536) (k / 65536)) (value_name f.stands)
          ∙ text_referred pool h.pooled.front h.pooled.small f.refers;
      holds = held_value f.stands h.pooled b.0;
      wide = omega (arith, value_size f.stands, size_some f.value);
      within = omega (arith, value_size f.stands, value_within f.stands);
      inside = omega (arith, f.more.reaches);
      more = record { used = h.used; stand = f.more; pooled = h.pooled; bounded = b.1 };
    }

-- no name comes twice in it, nor in the others
pub first_once
    : {nodes pool : List ℕ} {i end : ℕ} {ms : Members} (f : First nodes pool i end ms) → distinct_members ms ≡ true
    → (distinct f.value ≡ true) × (distinct_members f.others ≡ true)
unfolding distinct
first_once f d =
    let t =
    and_three (not (has_name f.name f.others)) (distinct f.value) (distinct_members f.others)
    (sym (ap distinct_members f.same) ∙ d)
    in
    (t.1, t.2)

-- ---- the walk

module _ (shapes : List ℕ) (from to : ℕ) (nodes : List ℕ) (at end : ℕ) (pool : List ℕ) where
  pub record Left (i : ℕ) (fs : Fields) (ms : Members) : Type 0 where
    pub others : Members
    pub holds : HoldsMembers nodes pool i end others
    pub alike : admitted_members ms fs ≡ admitted_members others fs
    pub once : distinct_members ms ≡ true → distinct_members others ≡ true

  pub record Walking (i : ℕ) : Type 0 where
    pub ahead : at ≤ i
    pub left
        : (fs : Fields) → HoldsFields shapes pool from to fs → (ms : Members) → HoldsMembers nodes pool at end ms → Left i fs ms

  pub walk_begins : Walking at
  walk_begins = record { ahead = omega arith; left = λ fs h ms k. record { others = ms; holds = k; alike = refl; once = λ d. d } }

  module _ {i : ℕ} (w : Walking i) (more : i < end) where
    next
        : (a : MembersAsked shapes from to nodes at end pool)
        → First nodes pool i end (w.left a.fields a.held a.members a.holds).others
    next a = first (w.left a.fields a.held a.members a.holds).holds more

    pub walk_step
        : MembersAsked shapes from to nodes at end pool
        → (3 ≤ row_size nodes i) × (i + row_size nodes i ≤ length nodes) × (i + row_size nodes i ≤ end)
    walk_step a = ((next a).wide, (next a).within, (next a).inside)

    -- its row is there
    pub walk_row : MembersAsked shapes from to nodes at end pool → i + 1 < length nodes
    walk_row a = omega (arith, (next a).wide, (next a).within)

    module _ (m : std.Option ℕ) (names : Names shapes from to pool (get_or nodes (i + 2) 0) m) where
      -- what the search tells of the first member
      tells
          : {fs : Fields} (h : HoldsFields shapes pool from to fs) {ns : Members} (k : HoldsMembers nodes pool i end ns)
          → Tells shapes h.used to (first k more).name fs m
      tells {fs} h k =
          subst (λ (t : Bytes). Tells shapes h.used to t fs m) (first k more).text (names h.used fs h.listed)

      -- the first member apart
      step
          : {fs : Fields} {ms : Members} (l : Left i fs ms)
          → admitted_members ms fs
          ≡ (admitted_by_listed (first l.holds more).value (find (first l.holds more).name fs)
          && admitted_members (first l.holds more).others fs)
      step {fs} l =
          let f = first l.holds more in
          l.alike
          ∙ ap (λ (ns : Members). admitted_members ns fs) f.same
          ∙ admitted_member f.name f.value f.others fs

      pub walk_misses : m ≡ None → MembersTold shapes from to nodes at end pool false
      walk_misses e fs h ms k =
          let l = w.left fs h ms k in
          let f = first l.holds more in
          let t : find f.name fs ≡ none = subst (λ (x : std.Option ℕ). Tells shapes h.used to f.name fs x) e (tells h l.holds) in
          sym
          (step l
          ∙ ap (λ (o : Option Shape). admitted_by_listed f.value o && admitted_members f.others fs) t)

      module _ {row : ℕ} (e : m ≡ Some row) where
        found
            : {fs : Fields} (h : HoldsFields shapes pool from to fs) {ns : Members} (k : HoldsMembers nodes pool i end ns)
            → Found_at shapes h.used to (first k more).name fs row
        found {fs} h k = subst (λ (x : std.Option ℕ). Tells shapes h.used to (first k more).name fs x) e (tells h k)

        pub walk_asks : MembersAsked shapes from to nodes at end pool → ValueAsked shapes row nodes i pool
        walk_asks a =
            let l = w.left a.fields a.held a.members a.holds in
            record {
              shape = (found a.held l.holds).shape;
              held = found_held a.held (found a.held l.holds);
              value = (next a).value;
              holds = (next a).holds;
              once = (first_once (next a) (l.once a.once)).0;
            }

        module _ {r : Bool} (told : ValueTold shapes row nodes i pool r) where
          step_told
              : {fs : Fields} (h : HoldsFields shapes pool from to fs) {ms : Members} (l : Left i fs ms)
              → admitted_members ms fs ≡ (r && admitted_members (first l.holds more).others fs)
          unfolding admits
          step_told {fs} h l =
              let f = first l.holds more in
              let g = found h l.holds in
              step l
              ∙ ap (λ (o : Option Shape). admitted_by_listed f.value o && admitted_members f.others fs) g.found
              ∙ ap (λ (b : Bool). b && admitted_members f.others fs) (sym (told g.shape (found_held h g) f.value f.holds))

          pub walk_fails : r ≡ false → MembersTold shapes from to nodes at end pool false
          walk_fails x fs h ms k =
              let l = w.left fs h ms k in
              sym (step_told h l ∙ ap (λ (b : Bool). b && admitted_members (first l.holds more).others fs) x)

          pub walk_on : {n : ℕ} → r ≡ true → n ≡ row_size nodes i → Walking (i + n)
          walk_on x s =
              subst (λ (n : ℕ). Walking (i + n)) (sym s)
              (record {
                ahead = omega (arith, w.ahead);
                left = λ fs h ms k.
                    let l = w.left fs h ms k in
                    record {
                      others = (first l.holds more).others;
                      holds = (first l.holds more).more;
                      alike =
                          step_told h l
                          ∙ ap (λ (b : Bool). b && admitted_members (first l.holds more).others fs) x;
                      once = λ d. (first_once (first l.holds more) (l.once d)).1;
                    };
              })

  pub walk_ends : {i : ℕ} → Walking i → end ≤ i → MembersTold shapes from to nodes at end pool true
  unfolding admitted
  walk_ends w past fs h ms k =
      let l = w.left fs h ms k in
      sym (l.alike ∙ ap (λ (ns : Members). admitted_members ns fs) (no_member_left l.holds.stand past))
