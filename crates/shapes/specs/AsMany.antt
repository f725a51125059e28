-- As many members as are listed, each of them listed and no name twice: each name listed is one of theirs. Assumes nothing.
use Rattle.std.specs.Prelude.{ℕ, ◌+◌, ◌≡◌, refl, ◌⊎◌, true, false, not}
use Rattle.std.proofs.Common.{sym, ap, ◌∙◌, inl, inr, arith}
use Rattle.std.proofs.lemmas.Bool.{false≢true}
use Rattle.definitions.specs.Bytes.{Bytes, same, found}
use Rattle.definitions.specs.Value.{Members, no_members, member, has_name}
use Rattle.definitions.specs.Shape.{Shape, Fields, no_fields, field, find}
use Rattle.laws.specs.Bools.{tell, and_three, or_left, or_right, not_true, clash}
use Rattle.laws.specs.Names.{same_eq, eq_same}
use Rattle.laws.specs.Fields.{find_here, find_there}
use Rattle.laws.specs.Distinct.{distinct, distinct_members}
use Rattle.nodes.specs.Standing.{member_count}
use Rattle.shapes.specs.Members.{field_count}

-- ---- listed members without one

-- without the first of this name
unfoldable without : Bytes → Fields → Fields
without n no_fields = no_fields
without n (field m s fs) = elim (same n m) [ true ↦ fs | false ↦ field m s (without n fs) ]

without_here : (n m : Bytes) (s : Shape) (fs : Fields) → same n m ≡ true → without n (field m s fs) ≡ fs
unfolding without
without_here n m s fs e = rw (e, without)

without_there : (n m : Bytes) (s : Shape) (fs : Fields) → same n m ≡ false → without n (field m s fs) ≡ field m s (without n fs)
unfolding without
without_there n m s fs e = rw (e, without)

count_without : (n : Bytes) (fs : Fields) → found (find n fs) ≡ true → field_count fs ≡ field_count (without n fs) + 1
unfolding field_count find found
count_without n no_fields h = absurd (false≢true h)
count_without n (field m s fs) h = go (count_without n fs) (tell (same n m))
  where
    go
        : (found (find n fs) ≡ true → field_count fs ≡ field_count (without n fs) + 1) → (same n m ≡ true) ⊎ (same n m ≡ false)
        → field_count (field m s fs) ≡ field_count (without n (field m s fs)) + 1
    go i (inl e) = ap (λ (gs : Fields). field_count gs + 1) (sym (without_here n m s fs e))
    go i (inr e) =
        ap (λ (x : ℕ). x + 1) (i (ap found (sym (find_there n m s fs e)) ∙ h)) ∙ ap (λ (gs : Fields). field_count gs + 1) (sym (without_there n m s fs e))

-- another name is found there as before
find_without : (n k : Bytes) (fs : Fields) → same k n ≡ false → find k (without n fs) ≡ find k fs
unfolding without
find_without n k no_fields h = refl
find_without n k (field m s fs) h = go (find_without n k fs h) (tell (same n m)) (tell (same k m))
  where
    go
        : find k (without n fs) ≡ find k fs → (same n m ≡ true) ⊎ (same n m ≡ false) → (same k m ≡ true) ⊎ (same k m ≡ false)
        → find k (without n (field m s fs)) ≡ find k (field m s fs)
    go i (inl e) b =
        ap (find k) (without_here n m s fs e)
        ∙ sym (find_there k m s fs (ap (same k) (sym (same_eq n m e)) ∙ h))
    go i (inr e) (inl f) = ap (find k) (without_there n m s fs e) ∙ find_here k m s (without n fs) f ∙ sym (find_here k m s fs f)
    go i (inr e) (inr f) =
        ap (find k) (without_there n m s fs e)
        ∙ find_there k m s (without n fs) f
        ∙ i
        ∙ sym (find_there k m s fs f)

-- ---- none is missing

-- each name of the members is listed
abbrev pub AllListed : Members → Fields → Type 0
AllListed ms fs = (k : Bytes) → has_name k ms ≡ true → found (find k fs) ≡ true

-- each name listed is one of the members'
abbrev pub AllThere : Members → Fields → Type 0
AllThere ms fs = (k : Bytes) → found (find k fs) ≡ true → has_name k ms ≡ true

pub as_many
    : (ms : Members) (fs : Fields) → distinct_members ms ≡ true → AllListed ms fs → member_count ms ≡ field_count fs → AllThere ms fs
unfolding distinct member_count field_count has_name find found
as_many no_members no_fields d l e k h = absurd (false≢true h)
as_many no_members (field m s fs) d l e k h = absurd (let z : ⊥ = omega (arith, e) in z)
as_many (member n v ms) fs d l e k h =
    go (as_many ms (without n fs) parts.2 others_listed counts k) (tell (same k n))
  where
    parts : (not (has_name n ms) ≡ true) × (distinct v ≡ true) × (distinct_members ms ≡ true)
    parts = and_three (not (has_name n ms)) (distinct v) (distinct_members ms) d

    once : has_name n ms ≡ false
    once = not_true (has_name n ms) parts.0

    others_listed : AllListed ms (without n fs)
    others_listed i g = other (tell (same i n))
      where
        other : (same i n ≡ true) ⊎ (same i n ≡ false) → found (find i (without n fs)) ≡ true
        other (inl f) = clash g (ap (λ (j : Bytes). has_name j ms) (same_eq i n f) ∙ once)
        other (inr f) = ap found (find_without n i fs f) ∙ l i (or_right (same i n) g)

    first_listed : found (find n fs) ≡ true
    first_listed = l n (or_left (has_name n ms) (eq_same n n refl))

    counts : member_count ms ≡ field_count (without n fs)
    counts = omega (arith, e, count_without n fs first_listed)

    go
        : (found (find k (without n fs)) ≡ true → has_name k ms ≡ true) → (same k n ≡ true) ⊎ (same k n ≡ false)
        → has_name k (member n v ms) ≡ true
    go i (inl f) = or_left (has_name k ms) f
    go i (inr f) = or_right (same k n) (i (ap found (find_without n k fs f) ∙ h))
