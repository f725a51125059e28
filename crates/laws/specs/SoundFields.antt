-- Members: what `field` reads out of a record is admitted by the listed shape, and a pack's members are admitted by the
-- fields that its check lists. Assumes nothing.
use Prim.Native.Nat.{Ordering}
use Rattle.std.specs.Prelude.{◌≡◌, refl, ◌⊎◌, Bool, true, false, ◌&&◌, ◌||◌}
use Rattle.std.proofs.Common.{sym, ◌∙◌, ap, ap₂, subst, inl, inr}
use Rattle.std.proofs.lemmas.Bool.{false≢true}
use Rattle.std.proofs.Math.Option.{Option, none, some}
use Rattle.definitions.specs.Bytes.{Bytes, order, same}
use Rattle.definitions.specs.Value.{Value, Members, no_members, member, has_name}
use Rattle.definitions.specs.Shape.{Kind, rank, among, Shape, shape, Record, no_rec, rec_of, Fields, no_fields, field, has, element_of, record_of, find}
use Rattle.definitions.specs.Shape.{ascending_fields}
use Rattle.definitions.specs.Join.{with_null, insert}
use Rattle.definitions.specs.Admits.{kind_of, missing_have_null, admits, admitted, admitted_members}
use Rattle.definitions.specs.Checking.{field_kinds, gain_null}
use Rattle.definitions.specs.Running.{member_of, members_of}
use Rattle.laws.specs.Bools.{and_left, and_right, and_intro, or_cases, or_left, or_right, or_false_left, or_false_right}
use Rattle.laws.specs.Names.{same_refl, same_eq, same_sym}
use Rattle.laws.specs.Fields.{none_some, some_same, find_here, find_there, find_none}
use Rattle.laws.specs.FieldsPut.{find_insert_here, find_insert_there}
use Rattle.laws.specs.JoinUpper.{with_null_has, with_null_kinds}
use Rattle.laws.specs.Bools.{and_two}
use Rattle.laws.specs.SoundKinds.{number_kind}

-- ---- reading a member

-- a value under the shape that is listed for its name, if there is one
abbrev listed_admits : Value → Option Shape → Bool
listed_admits v o = elim o [ none ↦ false | some s ↦ admitted v s ]

-- a listed name is there, or its shape has null
lacked_find
    : (ms : Members) (n : Bytes) (fs : Fields) (u : Shape) → missing_have_null ms fs ≡ true → find n fs ≡ some u
    → has_name n ms || has Kind.null u ≡ true
unfolding missing_have_null find
lacked_find ms n no_fields u l e = none_some (find_none n) e
lacked_find ms n (field m s fs) u l e =
    let d = and_two (has_name m ms || has Kind.null s) (missing_have_null ms fs) l in
    go (same n m) refl d.0 (lacked_find ms n fs u d.1)
  where
    go
        : (b : Bool) → same n m ≡ b → has_name m ms || has Kind.null s ≡ true
        → (find n fs ≡ some u → has_name n ms || has Kind.null u ≡ true)
        → has_name n ms || has Kind.null u ≡ true
    go true q h f =
        ap₂ (λ k w. has_name k ms || has Kind.null w) (same_eq n m q) (some_same e (find_here n m s fs q)) ∙ h
    go false q h f = f (sym (find_there n m s fs q) ∙ e)

member_admitted_from
    : (n : Bytes) (ms : Members) (fs : Fields) (u : Shape) → admitted_members ms fs ≡ true → find n fs ≡ some u
    → has_name n ms || has Kind.null u ≡ true → admitted (member_of n ms) u ≡ true
unfolding member_of admitted has_name
member_admitted_from n no_members fs u h e o = o
member_admitted_from n (member m v ms) fs u h e o =
    go (same n m) refl o (member_admitted_from n ms fs u (and_right (listed_admits v (find m fs)) (admitted_members ms fs) h) e)
  where
    go
        : (b : Bool) → same n m ≡ b → (b || has_name n ms) || has Kind.null u ≡ true
        → (has_name n ms || has Kind.null u ≡ true → admitted (member_of n ms) u ≡ true)
        → admitted (elim b [ true ↦ v | false ↦ member_of n ms ]) u ≡ true
    go true q o f =
        ap (listed_admits v) (sym e ∙ ap (λ k. find k fs) (same_eq n m q))
        ∙ and_left (listed_admits v (find m fs)) (admitted_members ms fs) h
    go false q o f = f o

-- "A missing member reads as null."
pub member_admitted
    : (n : Bytes) (ms : Members) (fs : Fields) (u : Shape) → admitted_members ms fs ≡ true → missing_have_null ms fs ≡ true
    → find n fs ≡ some u → admitted (member_of n ms) u ≡ true
member_admitted n ms fs u h l e = member_admitted_from n ms fs u h e (lacked_find ms n fs u l e)

-- null added takes nothing away
with_null_admits : (v : Value) (s : Shape) → admitted v s ≡ true → admitted v (with_null s) ≡ true
unfolding admitted has element_of record_of with_null
with_null_admits Value.null (shape n b m t e r) h = refl
with_null_admits (Value.bool b) (shape n c m t e r) h = h
with_null_admits (Value.number x) s h = with_null_kinds s (kind_of (Value.number x)) h
with_null_admits (Value.text t) (shape n b m u e r) h = h
with_null_admits (Value.list vs) (shape n b m t e r) h = h
with_null_admits (Value.rec ms) (shape n b m t e r) h = h

gain_admits : (b : Bool) (v : Value) (s : Shape) → admitted v s ≡ true → admitted v (gain_null b s) ≡ true
unfolding gain_null
gain_admits false v s h = h
gain_admits true v s h = with_null_admits v s h

-- what `field` reads out of an admitted value
pub field_admits
    : (n : Bytes) (v : Value) (s : Shape) (fs : Fields) (u : Shape) → admits s v ≡ true
    → among (kind_of v) field_kinds ≡ true → record_of s ≡ rec_of fs → find n fs ≡ some u
    → admits (gain_null (has Kind.null s) u) (member_of n (members_of v)) ≡ true
unfolding admits admitted kind_of among rank field_kinds members_of member_of gain_null
field_admits n Value.null s fs u h k r e = ap (λ b. has Kind.null (gain_null b u)) h ∙ with_null_has u
field_admits n (Value.bool b) s fs u h k r e = absurd (false≢true k)
field_admits n (Value.number x) s fs u h k r e =
    absurd (number_kind (λ j. among j field_kinds ≡ true → ⊥) x false≢true false≢true k)
field_admits n (Value.text t) s fs u h k r e = absurd (false≢true k)
field_admits n (Value.list vs) s fs u h k r e = absurd (false≢true k)
field_admits n (Value.rec ms) s fs u h k r e =
    let d = and_two (admitted_members ms fs) (missing_have_null ms fs) there in
    gain_admits (has Kind.null s) (member_of n ms) u (member_admitted n ms fs u d.0 d.1 e)
  where
    there : admitted_members ms fs && missing_have_null ms fs ≡ true
    there = subst (λ (x : Record). elim x [ no_rec ↦ false | rec_of gs ↦ admitted_members ms gs && missing_have_null ms gs ] ≡ true) r h

-- ---- a pack's members

lacked_insert
    : (ms : Members) (n : Bytes) (s : Shape) (fs : Fields) → has_name n ms ≡ true → missing_have_null ms fs ≡ true
    → missing_have_null ms (insert n s fs) ≡ true
unfolding insert missing_have_null
lacked_insert ms n s no_fields h l = and_intro (or_left (has Kind.null s) h) refl
lacked_insert ms n s (field m t fs) h l =
    let d = and_two (has_name m ms || has Kind.null t) (missing_have_null ms fs) l in
    go (order n m) d.0 d.1 (lacked_insert ms n s fs h d.1)
  where
    go
        : (o : Ordering) → has_name m ms || has Kind.null t ≡ true → missing_have_null ms fs ≡ true
        → missing_have_null ms (insert n s fs) ≡ true
        → missing_have_null ms (elim o [
          | Ordering.lt ↦ field n s (field m t fs)
          | Ordering.eq ↦ field n s fs
          | Ordering.gt ↦ field m t (insert n s fs)
        ]) ≡ true
    go Ordering.lt p q f = and_intro (or_left (has Kind.null s) h) (and_intro p q)
    go Ordering.eq p q f = and_intro (or_left (has Kind.null s) h) q
    go Ordering.gt p q f = and_intro p f

-- one more member
lacked_member
    : (n : Bytes) (v : Value) (ms : Members) (fs : Fields) → missing_have_null ms fs ≡ true
    → missing_have_null (member n v ms) fs ≡ true
unfolding missing_have_null has_name
lacked_member n v ms no_fields l = refl
lacked_member n v ms (field m t fs) l =
    let d = and_two (has_name m ms || has Kind.null t) (missing_have_null ms fs) l in
    and_intro (go (or_cases (has_name m ms) (has Kind.null t) d.0)) (lacked_member n v ms fs d.1)
  where
    go : (has_name m ms ≡ true) ⊎ (has Kind.null t ≡ true) → (same m n || has_name m ms) || has Kind.null t ≡ true
    go (inl h) = or_left (has Kind.null t) (or_right (same m n) h)
    go (inr h) = or_right (same m n || has_name m ms) h

-- members of other names
insert_admitted
    : (n : Bytes) (s : Shape) (ms : Members) (fs : Fields) → has_name n ms ≡ false → admitted_members ms fs ≡ true
    → admitted_members ms (insert n s fs) ≡ true
unfolding admitted has_name
insert_admitted n s no_members fs d h = refl
insert_admitted n s (member m v ms) fs d h =
    let k = and_two (listed_admits v (find m fs)) (admitted_members ms fs) h in
    let other : same m n ≡ false = same_sym n m ∙ or_false_left (same n m) (has_name n ms) d in
    and_intro
    (ap (listed_admits v) (find_insert_there m n s fs other) ∙ k.0)
    (insert_admitted n s ms fs (or_false_right (same n m) (has_name n ms) d) k.1)

-- a pair in front: its shape is listed, its value a member
pub pack_admitted
    : (n : Bytes) (v : Value) (s : Shape) (ms : Members) (fs : Fields) → ascending_fields fs ≡ true → has_name n ms ≡ false
    → admitted v s ≡ true → admitted_members ms fs && missing_have_null ms fs ≡ true
    → admitted_members (member n v ms) (insert n s fs) && missing_have_null (member n v ms) (insert n s fs) ≡ true
unfolding admitted has_name
pack_admitted n v s ms fs i d a h =
    let k = and_two (admitted_members ms fs) (missing_have_null ms fs) h in
    and_intro
    (and_intro (ap (listed_admits v) (find_insert_here n s fs i) ∙ a) (insert_admitted n s ms fs d k.0))
    (lacked_insert (member n v ms) n s fs (or_left (has_name n ms) (same_refl n)) (lacked_member n v ms fs k.1))
