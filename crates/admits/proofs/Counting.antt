-- As many members as are listed, each of them listed and no name twice: none is missing. Assumes nothing.
use Prim.Native.Nat.{ℕ, zero, suc, ◌+◌, ◌≤◌, ◌<◌}
use mathlib.Core.Path.{◌≡◌, refl, sym, ap, ap₂, ◌∙◌}
use mathlib.Core.Logic.{◌⊎◌, inl, inr}
use mathlib.Core.Bool.{Bool, true, false, ◌&&◌, ◌||◌, false≢true}
use mathlib.Core.List.{List}
use mathlib.Core.Option.{Option, none, some}
use native.Mathlib.Omega.{arith}
use Rattle.definitions.specs.Bytes.{Bytes, same, found}
use Rattle.definitions.specs.Value.{Members, no_members, member, has_name}
use Rattle.definitions.specs.Shape.{Kind, Shape, Fields, no_fields, field, find, has}
use Rattle.definitions.specs.Admits.{admitted_members, missing_have_null}
use Rattle.laws.specs.Bools.{tell, and_left, and_right, and_intro, or_left, or_cases}
use Rattle.laws.specs.Names.{same_eq}
use Rattle.laws.specs.Fields.{find_here, find_there, find_first}
use Rattle.laws.specs.AdmitsParts.{admitted_by_listed, admitted_member}
use Rattle.laws.specs.Tests.{lt_or_le}
use Rattle.nodes.specs.Nodes.{row_size}
use Rattle.nodes.specs.Standing.{member_count, MembersStand}
use Rattle.nodes.specs.StandingLaws.{no_member_left}
use Rattle.shapes.specs.Shapes.{FieldsStand}
use Rattle.shapes.specs.Members.{field_count}
use Rattle.shapes.specs.AsMany.{AllListed, AllThere, as_many}
use Rattle.admits.specs.Admission.{HoldsMembers, MembersAsked, MembersTold, NullsTold}
use Rattle.admits.proofs.Named.{first}

-- ---- in the words of the definitions

pub admitted_listed : (ms : Members) (fs : Fields) → admitted_members ms fs ≡ true → AllListed ms fs
unfolding has_name found
admitted_listed no_members fs h k i = absurd (false≢true i)
admitted_listed (member n v ms) fs h k i =
    go (admitted_listed ms fs (and_right (admitted_by_listed v (find n fs)) (admitted_members ms fs) both) k) (or_cases (same k n) (has_name k ms) i)
  where
    both : admitted_by_listed v (find n fs) && admitted_members ms fs ≡ true
    both = sym (admitted_member n v ms fs) ∙ h

    by : (o : Option Shape) → admitted_by_listed v o ≡ true → found o ≡ true
    by none e = absurd (false≢true e)
    by (some s) e = refl

    go
        : (has_name k ms ≡ true → found (find k fs) ≡ true) → (same k n ≡ true) ⊎ (has_name k ms ≡ true)
        → found (find k fs) ≡ true
    go j (inl e) =
        ap (λ (j : Bytes). found (find j fs)) (same_eq k n e)
        ∙ by (find n fs) (and_left (admitted_by_listed v (find n fs)) (admitted_members ms fs) both)
    go j (inr e) = j e

pub none_missing : (ms : Members) (fs : Fields) → AllThere ms fs → missing_have_null ms fs ≡ true
unfolding missing_have_null found
none_missing ms no_fields h = refl
none_missing ms (field n s fs) h =
    and_intro
    (or_left (has Kind.null s) (h n (ap found (find_first n s fs))))
    (none_missing ms fs (λ k e. h k (go k e (tell (same k n)))))
  where
    go : (k : Bytes) → found (find k fs) ≡ true → (same k n ≡ true) ⊎ (same k n ≡ false) → found (find k (field n s fs)) ≡ true
    go k e (inl f) = ap found (find_here k n s fs f)
    go k e (inr f) = ap found (find_there k n s fs f) ∙ e

-- ---- members of the tables

-- members that stand in one place have the same names
alike
    : {nodes pool : List ℕ} {end : ℕ} {ms ns : Members} (most i : ℕ) → end ≤ i + most → HoldsMembers nodes pool i end ms
    → HoldsMembers nodes pool i end ns → (k : Bytes) → has_name k ms ≡ has_name k ns
unfolding has_name
alike {ms} {ns} zero i l h g k =
    ap (has_name k) (no_member_left h.stand (omega arith)) ∙ sym (ap (has_name k) (no_member_left g.stand (omega arith)))
alike {nodes} {pool} {end} {ms} {ns} (suc most) i l h g k = go (lt_or_le i end) (λ j u os ps h' g'. alike most j u h' g' k)
  where
    go
        : (i < end) ⊎ (end ≤ i)
        → ((j : ℕ) → end ≤ j + most → (os ps : Members) → HoldsMembers nodes pool j end os → HoldsMembers nodes pool j end ps
        → has_name k os ≡ has_name k ps)
        → has_name k ms ≡ has_name k ns
    go (inl more) again =
        let f = first h more in
        let e = first g more in
        ap (has_name k) f.same
        ∙ ap₂ (λ (n : Bytes) (b : Bool). same k n || b) (sym f.text ∙ e.text)
        (again (i + row_size nodes i) (omega (arith, f.wide)) f.others e.others f.more e.more)
        ∙ sym (ap (has_name k) e.same)
    go (inr past) again = ap (has_name k) (no_member_left h.stand past) ∙ sym (ap (has_name k) (no_member_left g.stand past))

pub none_lacked
    : {shapes : List ℕ} {from to : ℕ} {nodes : List ℕ} {at end : ℕ} {pool : List ℕ} {x y : ℕ} → MembersAsked shapes from to nodes at end pool
    → MembersTold shapes from to nodes at end pool true
    → ((p : List ℕ) (fs : Fields) → FieldsStand shapes p from to fs → x ≡ field_count fs)
    → ((p : List ℕ) (ms : Members) → MembersStand nodes p at end ms → y ≡ member_count ms)
    → x ≡ y → NullsTold shapes from to nodes at end pool true
none_lacked {at} {end} a t f m e fs h ms k =
    let same_names : (n : Bytes) → has_name n ms ≡ has_name n a.members = alike end at (omega arith) k a.holds in
    let listed = admitted_listed ms fs (sym (t fs h ms k)) in
    let there =
    as_many a.members fs a.once (λ n i. listed n (same_names n ∙ i))
    (sym (m a.holds.used a.members a.holds.stand) ∙ sym e ∙ f h.used fs h.listed.stand)
    in
    sym (none_missing ms fs (λ n i. same_names n ∙ there n i))
