-- The ranges of a set of limits as inequalities, both ways. Assumes nothing.
use Rattle.std.specs.Prelude.{ℕ, ◌≤◌, ◌≡◌, true, ◌&&◌, leb}
use Rattle.definitions.specs.declared.Limits.{Limits}
use Rattle.definitions.specs.Limits.{within, in_range}
use Rattle.laws.specs.Bools.{and_left, and_right, and_intro}
use Rattle.laws.specs.Tests.{leb_le, le-leb}

-- each limit lies in its range
pub record Bounds (l : Limits) : Type 0 where
  pub bytes : (1024 ≤ l.bytes) × (l.bytes ≤ 16384)
  pub values : (16 ≤ l.values) × (l.values ≤ 512)
  pub nesting : (4 ≤ l.nesting) × (l.nesting ≤ 32)
  pub steps : (256 ≤ l.steps) × (l.steps ≤ 65536)

within_both : (a b n : ℕ) → within a b n ≡ true → (a ≤ n) × (n ≤ b)
within_both a b n h = (leb_le (and_left (leb a n) (leb n b) h), leb_le (and_right (leb a n) (leb n b) h))

both_within : (a b n : ℕ) → (a ≤ n) × (n ≤ b) → within a b n ≡ true
both_within a b n (h, k) = and_intro (le-leb h) (le-leb k)

pub bounds_of : {l : Limits} → in_range l ≡ true → Bounds l
unfolding in_range
bounds_of {l} h =
    let first = within 1024 16384 l.bytes in
    let second = within 16 512 l.values in
    let third = within 4 32 l.nesting in
    let fourth = within 256 65536 l.steps in
    let three = and_left (first && second && third) fourth h in
    let two = and_left (first && second) third three in
    record {
      bytes = within_both 1024 16384 l.bytes (and_left first second two);
      values = within_both 16 512 l.values (and_right first second two);
      nesting = within_both 4 32 l.nesting (and_right (first && second) third three);
      steps = within_both 256 65536 l.steps (and_right (first && second && third) fourth h);
    }

pub in_bounds : {l : Limits} → Bounds l → in_range l ≡ true
unfolding in_range
in_bounds {l} b =
    and_intro
    (and_intro (and_intro (both_within 1024 16384 l.bytes b.bytes) (both_within 16 512 l.values b.values))
    (both_within 4 32 l.nesting b.nesting))
    (both_within 256 65536 l.steps b.steps)
