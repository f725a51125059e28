-- The walk that counts members. Assumes nothing.
use Prim.Native.Nat.{ℕ, ◌+◌, ◌≤◌, ◌<◌}
use mathlib.Core.Path.{◌≡◌, sym, ap, subst}
use mathlib.Core.List.{List}
use native.Mathlib.Omega.{arith}
use lib.ListN.{length}
use Rattle.definitions.specs.Value.{Members}
use Rattle.nodes.specs.Nodes.{row_size}
use Rattle.nodes.specs.Standing.{MembersStand, SomeMembers, member_count}
use Rattle.nodes.specs.StandingLaws.{first_member, no_member_left}
use Rattle.nodes.proofs.Members.{member_step}

module _ (nodes : List ℕ) (at end : ℕ) where
  -- what is left to count at row i
  pub record Left (i count : ℕ) (p : List ℕ) (ms : Members) : Type 0 where
    pub others : Members
    pub stand : MembersStand nodes p i end others
    pub sum : member_count ms ≡ member_count others + count

  pub record Counting (i count : ℕ) : Type 0 where
    pub few : count ≤ i
    pub left : (p : List ℕ) (ms : Members) → MembersStand nodes p at end ms → Left i count p ms

  pub count_begins : Counting at 0
  count_begins = record { few = omega arith; left = λ p ms s. record { others = ms; stand = s; sum = omega arith } }

  module _ {i count : ℕ} (w : Counting i count) where
    pub count_step
        : SomeMembers nodes at end → i < end
        → (3 ≤ row_size nodes i) × (i + row_size nodes i ≤ length nodes) × (i + row_size nodes i ≤ end)
    count_step h more = member_step (w.left h.used h.members h.stand).stand more

    pub count_on : SomeMembers nodes at end → {n : ℕ} → i < end → n ≡ row_size nodes i → Counting (i + n) (count + 1)
    unfolding member_count
    count_on h more e =
        subst (λ (n : ℕ). Counting (i + n) (count + 1)) (sym e)
        (record {
          few = omega (arith, w.few, (count_step h more).0);
          left = λ p ms s.
              let l = w.left p ms s in
              let f = first_member l.stand more in
              record { others = f.others; stand = f.more; sum = omega (arith, l.sum, ap member_count f.same) };
        })

    pub count_ends : end ≤ i → (p : List ℕ) (ms : Members) → MembersStand nodes p at end ms → count ≡ member_count ms
    unfolding member_count
    count_ends past p ms s =
        let l = w.left p ms s in omega (arith, l.sum, ap member_count (no_member_left l.stand past))
