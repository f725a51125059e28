-- The proof of the cycle of calls {admits, admits_items, admits_listed, admits_members}. Each call goes on at a later row of the node table or,
-- from parts to their first value, at the same one: the measures are what is left of that table from the row on, and up to two more. Assumes nothing.
use native.Mathlib.Omega.{arith}
use mathlib.Core.Path.{sym, ◌∙◌}
use Rattle.shapes.specs.HeldLaws.{held_within, some_listed}
use Rattle.admits.proofs.Elements as elements
use Rattle.admits.proofs.Named as named
use Rattle.admits.proofs.Wholes.{Seen, seen, without_kind, single, leaf_told, value_ends, list_asks}
use Rattle.admits.proofs.Wholes.{list_told, rec_asks, rec_fails, rec_told, members_within}
use Rattle.admits.proofs.+admits_admits_items_admits_listed_admits_members.Goals as goal

pub admits-returns-then-not-has : goal.admits-returns-then-not-has
admits-returns-then-not-has t c =
    let seen_here : Seen c.args.shapes.now c.args.row c.args.nodes.now c.args.at c.args.pool.now c.kind_bit-bit.result.kinds c.has.result =
    seen c.args.shapes.now c.args.row c.args.nodes.now c.args.at c.args.pool.now
    c.kind_bit-bit.ensures.told c.kinds.ensures.read c.has.ensures.told in
    record {
      told = without_kind c.args.shapes.now c.args.row c.args.nodes.now c.args.at c.args.pool.now
          seen_here c.if-not-has.true;
    }

pub admits-returns-then-bit : goal.admits-returns-then-bit
admits-returns-then-bit t c =
    let seen_here : Seen c.args.shapes.now c.args.row c.args.nodes.now c.args.at c.args.pool.now c.kind_bit-bit.result.kinds c.has.result =
    seen c.args.shapes.now c.args.row c.args.nodes.now c.args.at c.args.pool.now
    c.kind_bit-bit.ensures.told c.kinds.ensures.read c.has.ensures.told in
    record {
      told = single c.args.shapes.now c.args.row c.args.nodes.now c.args.at c.args.pool.now
          seen_here c.if-not-has.false c.if-bit.true;
    }

pub admits-overflow_add-end : goal.admits-overflow_add-end
admits-overflow_add-end t c =
    omega (arith, (value_ends c.requires.holds).1, c.row_size.ensures.sized)

pub admits-overflow_add-row : goal.admits-overflow_add-row
admits-overflow_add-row t c =
    omega (arith, (held_within c.requires.held).0, (held_within c.requires.held).1)

pub admits-overflow_add-at : goal.admits-overflow_add-at
admits-overflow_add-at t c =
    omega (arith, (value_ends c.requires.holds).0, (value_ends c.requires.holds).1)

pub admits-admits_items-requires : goal.admits-admits_items-requires
admits-admits_items-requires t c =
    let seen_here : Seen c.args.shapes.now c.args.row c.args.nodes.now c.args.at c.args.pool.now c.kind_bit-bit.result.kinds c.has.result =
    seen c.args.shapes.now c.args.row c.args.nodes.now c.args.at c.args.pool.now
    c.kind_bit-bit.ensures.told c.kinds.ensures.read c.has.ensures.told in (
      omega (arith, c.decreases, (value_ends c.requires.holds).0, (value_ends c.requires.holds).1),
      list_asks c.args.shapes.now c.args.row c.args.nodes.now c.args.at c.args.pool.now
          seen_here c.if-not-has.false c.row_size.ensures.sized c.if-bit-2.true c.requires,
    )

pub admits-returns-then-bit-2 : goal.admits-returns-then-bit-2
admits-returns-then-bit-2 t c =
    let seen_here : Seen c.args.shapes.now c.args.row c.args.nodes.now c.args.at c.args.pool.now c.kind_bit-bit.result.kinds c.has.result =
    seen c.args.shapes.now c.args.row c.args.nodes.now c.args.at c.args.pool.now
    c.kind_bit-bit.ensures.told c.kinds.ensures.read c.has.ensures.told in
    record {
      told = list_told c.args.shapes.now c.args.row c.args.nodes.now c.args.at c.args.pool.now
          seen_here c.if-not-has.false c.row_size.ensures.sized c.if-bit-2.true c.admits_items.ensures.told;
    }

pub admits-members-from-requires : goal.admits-members-from-requires
admits-members-from-requires t c =
    let seen_here : Seen c.args.shapes.now c.args.row c.args.nodes.now c.args.at c.args.pool.now c.kind_bit-bit.result.kinds c.has.result =
    seen c.args.shapes.now c.args.row c.args.nodes.now c.args.at c.args.pool.now
    c.kind_bit-bit.ensures.told c.kinds.ensures.read c.has.ensures.told in
    record {
      row_in_bounds = omega (arith, (held_within c.requires.held).0, (held_within c.requires.held).1);
      within = omega (
        arith,
        members_within c.args.shapes.now c.args.row c.args.nodes.now c.args.at c.args.pool.now
            seen_here c.if-not-has.false c.row_size.ensures.sized c.if-bit.false
            c.if-bit-2.false c.requires,
        (held_within c.requires.held).1,
      );
    }

pub admits-overflow_add-to : goal.admits-overflow_add-to
admits-overflow_add-to t c =
    omega (arith, (held_within c.requires.held).1, c.size.ensures.read)

pub admits-overflow_add-at-2 : goal.admits-overflow_add-at-2
admits-overflow_add-at-2 t c =
    omega (arith, (value_ends c.requires.holds).0, (value_ends c.requires.holds).1)

pub admits-admits_members-requires : goal.admits-admits_members-requires
admits-admits_members-requires t c =
    let seen_here : Seen c.args.shapes.now c.args.row c.args.nodes.now c.args.at c.args.pool.now c.kind_bit-bit.result.kinds c.has.result =
    seen c.args.shapes.now c.args.row c.args.nodes.now c.args.at c.args.pool.now
    c.kind_bit-bit.ensures.told c.kinds.ensures.read c.has.ensures.told in (
      omega (arith, c.decreases, (value_ends c.requires.holds).0, (value_ends c.requires.holds).1),
      rec_asks c.args.shapes.now c.args.row c.args.nodes.now c.args.at c.args.pool.now
          seen_here c.if-not-has.false
          c.row_size.ensures.sized c.if-bit.false
          c.if-bit-2.false c.members-from.ensures.found c.size.ensures.read c.requires,
    )

pub admits-returns-else-admits_members : goal.admits-returns-else-admits_members
admits-returns-else-admits_members t c =
    let seen_here : Seen c.args.shapes.now c.args.row c.args.nodes.now c.args.at c.args.pool.now c.kind_bit-bit.result.kinds c.has.result =
    seen c.args.shapes.now c.args.row c.args.nodes.now c.args.at c.args.pool.now
    c.kind_bit-bit.ensures.told c.kinds.ensures.read c.has.ensures.told in
    record {
      told = rw c.if-admits_members.false (rec_fails c.args.shapes.now c.args.row c.args.nodes.now c.args.at c.args.pool.now
          seen_here c.if-not-has.false c.row_size.ensures.sized
          c.if-bit.false c.if-bit-2.false
          c.members-from.ensures.found c.size.ensures.read
          c.admits_members.ensures.told c.if-admits_members.false);
    }

pub admits-overflow_add-at-then-admits_members : goal.admits-overflow_add-at-then-admits_members
admits-overflow_add-at-then-admits_members t c =
    omega (arith, (value_ends c.requires.holds).0, (value_ends c.requires.holds).1)

pub admits-lacked_have_null-requires : goal.admits-lacked_have_null-requires
admits-lacked_have_null-requires t c =
    let seen_here : Seen c.args.shapes.now c.args.row c.args.nodes.now c.args.at c.args.pool.now c.kind_bit-bit.result.kinds c.has.result =
    seen c.args.shapes.now c.args.row c.args.nodes.now c.args.at c.args.pool.now
    c.kind_bit-bit.ensures.told c.kinds.ensures.read c.has.ensures.told in
    record {
      members_asked = rec_asks c.args.shapes.now c.args.row c.args.nodes.now c.args.at c.args.pool.now
          seen_here c.if-not-has.false c.row_size.ensures.sized
          c.if-bit.false c.if-bit-2.false
          c.members-from.ensures.found c.size.ensures.read c.requires;
      listed = λ fs h ms k. sym c.if-admits_members.true ∙ c.admits_members.ensures.told fs h ms k;
    }

pub admits-returns-then-admits_members : goal.admits-returns-then-admits_members
admits-returns-then-admits_members t c =
    let seen_here : Seen c.args.shapes.now c.args.row c.args.nodes.now c.args.at c.args.pool.now c.kind_bit-bit.result.kinds c.has.result =
    seen c.args.shapes.now c.args.row c.args.nodes.now c.args.at c.args.pool.now
    c.kind_bit-bit.ensures.told c.kinds.ensures.read c.has.ensures.told in
    record {
      told = rec_told c.args.shapes.now c.args.row c.args.nodes.now c.args.at c.args.pool.now
          seen_here c.if-not-has.false c.row_size.ensures.sized
          c.if-bit.false
          c.if-bit-2.false c.members-from.ensures.found c.size.ensures.read
          c.admits_members.ensures.told c.if-admits_members.true c.lacked_have_null.ensures.told;
    }

pub admits_items-loop-i-init : goal.admits_items-loop-i-init
admits_items-loop-i-init t c =
    elements.walk_begins c.args.shapes.now c.args.row c.args.nodes.now c.args.at c.args.end
    c.args.pool.now

pub admits_items-admits-requires : goal.admits_items-admits-requires
admits_items-admits-requires t c =
    let s = elements.walk_step c.args.shapes.now c.args.row c.args.nodes.now c.args.at c.args.end
    c.args.pool.now c.loop-i.invariant c.loop-i-test.true c.requires in (
      omega (arith, c.decreases, c.loop-i.invariant.ahead, s.0, s.1),
      elements.walk_asks c.args.shapes.now c.args.row c.args.nodes.now c.args.at c.args.end
          c.args.pool.now c.loop-i.invariant c.loop-i-test.true c.requires,
    )

pub admits_items-returns-then-not-admits : goal.admits_items-returns-then-not-admits
admits_items-returns-then-not-admits t c =
    record {
      told = elements.walk_fails c.args.shapes.now c.args.row c.args.nodes.now c.args.at c.args.end
          c.args.pool.now c.loop-i.invariant c.loop-i-test.true
          c.admits.ensures.told c.if-not-admits.true;
    }

pub admits_items-overflow_add-i : goal.admits_items-overflow_add-i
admits_items-overflow_add-i t c =
    let s = elements.walk_step c.args.shapes.now c.args.row c.args.nodes.now c.args.at c.args.end
    c.args.pool.now c.loop-i.invariant c.loop-i-test.true c.requires in
    omega (arith, c.row_size-i.ensures.sized, s.2)

pub admits_items-loop-i-smaller : goal.admits_items-loop-i-smaller
admits_items-loop-i-smaller t c =
    let s = elements.walk_step c.args.shapes.now c.args.row c.args.nodes.now c.args.at c.args.end
    c.args.pool.now c.loop-i.invariant c.loop-i-test.true c.requires in
    omega (arith, c.row_size-i.ensures.sized, c.loop-i-test.true, s.0, s.2)

pub admits_items-loop-i-preserved : goal.admits_items-loop-i-preserved
admits_items-loop-i-preserved t c =
    elements.walk_on c.args.shapes.now c.args.row c.args.nodes.now c.args.at c.args.end
    c.args.pool.now c.loop-i.invariant c.loop-i-test.true
    c.admits.ensures.told c.if-not-admits.false c.row_size-i.ensures.sized

pub admits_items-returns : goal.admits_items-returns
admits_items-returns t c =
    record {
      told = elements.walk_ends c.args.shapes.now c.args.row c.args.nodes.now c.args.at c.args.end
          c.args.pool.now c.loop-i.invariant c.loop-i-test.false;
    }

pub admits_listed-returns-then-row_kind-lt-LIST : goal.admits_listed-returns-then-row_kind-lt-LIST
admits_listed-returns-then-row_kind-lt-LIST t c =
    record {
      told = leaf_told c.args.shapes.now c.args.row c.args.nodes.now c.args.at c.args.pool.now
          (seen c.args.shapes.now c.args.row c.args.nodes.now c.args.at c.args.pool.now
          c.kind_bit.ensures.told c.kinds.ensures.read c.has.ensures.told)
          c.row_kind.ensures.read c.if-row_kind-lt-LIST.true;
    }

pub admits_listed-admits-requires : goal.admits_listed-admits-requires
admits_listed-admits-requires t c =
    (omega (arith, c.decreases), c.requires)

pub admits_listed-returns : goal.admits_listed-returns
admits_listed-returns t c =
    record { told = c.admits.ensures.told }

pub admits_members-loop-i-init : goal.admits_members-loop-i-init
admits_members-loop-i-init t c =
    named.walk_begins c.args.shapes.now c.args.from c.args.to c.args.nodes.now c.args.at
    c.args.end c.args.pool.now

pub admits_members-overflow_add-i : goal.admits_members-overflow_add-i
admits_members-overflow_add-i t c =
    let s = named.walk_step c.args.shapes.now c.args.from c.args.to c.args.nodes.now c.args.at
    c.args.end c.args.pool.now c.loop-i.invariant c.loop-i-test.true c.requires in
    omega (arith, s.0, s.1)

pub admits_members-offset_bounds-nodes-i : goal.admits_members-offset_bounds-nodes-i
admits_members-offset_bounds-nodes-i t c =
    let s = named.walk_step c.args.shapes.now c.args.from c.args.to c.args.nodes.now c.args.at
    c.args.end c.args.pool.now c.loop-i.invariant c.loop-i-test.true c.requires in
    omega (arith, s.0, s.1)

pub admits_members-bounds-nodes-i : goal.admits_members-bounds-nodes-i
admits_members-bounds-nodes-i t c =
    let s = named.walk_step c.args.shapes.now c.args.from c.args.to c.args.nodes.now c.args.at
    c.args.end c.args.pool.now c.loop-i.invariant c.loop-i-test.true c.requires in
    omega (arith, s.0, s.1)

pub admits_members-find_named-named-requires : goal.admits_members-find_named-named-requires
admits_members-find_named-named-requires t c =
    some_listed c.requires.held

pub admits_members-returns-in_default : goal.admits_members-returns-in_default
admits_members-returns-in_default t c =
    record {
      told = named.walk_misses c.args.shapes.now c.args.from c.args.to c.args.nodes.now c.args.at
          c.args.end c.args.pool.now c.loop-i.invariant
          c.loop-i-test.true c.find_named-named.result c.find_named-named.ensures.told
          c.in_default.is;
    }

pub admits_members-admits_listed-requires : goal.admits_members-admits_listed-requires
admits_members-admits_listed-requires t c =
    let s = named.walk_step c.args.shapes.now c.args.from c.args.to c.args.nodes.now c.args.at
    c.args.end c.args.pool.now c.loop-i.invariant c.loop-i-test.true c.requires in (
      omega (arith, c.decreases, c.loop-i.invariant.ahead, s.0, s.1),
      named.walk_asks c.args.shapes.now c.args.from c.args.to c.args.nodes.now c.args.at
          c.args.end c.args.pool.now c.loop-i.invariant c.loop-i-test.true c.find_named-named.result
          c.find_named-named.ensures.told c.in-Some.is c.requires,
    )

pub admits_members-returns-then-not-admits_listed : goal.admits_members-returns-then-not-admits_listed
admits_members-returns-then-not-admits_listed t c =
    record {
      told = named.walk_fails c.args.shapes.now c.args.from c.args.to c.args.nodes.now c.args.at
          c.args.end c.args.pool.now c.loop-i.invariant
          c.loop-i-test.true c.find_named-named.result c.find_named-named.ensures.told
          c.in-Some.is c.admits_listed.ensures.told c.if-not-admits_listed.true;
    }

pub admits_members-row_size_in-i-requires : goal.admits_members-row_size_in-i-requires
admits_members-row_size_in-i-requires t c =
    named.walk_row c.args.shapes.now c.args.from c.args.to c.args.nodes.now c.args.at
    c.args.end c.args.pool.now c.loop-i.invariant c.loop-i-test.true c.requires

pub admits_members-overflow_add-i-in-loop-i : goal.admits_members-overflow_add-i-in-loop-i
admits_members-overflow_add-i-in-loop-i t c =
    let s = named.walk_step c.args.shapes.now c.args.from c.args.to c.args.nodes.now c.args.at
    c.args.end c.args.pool.now c.loop-i.invariant c.loop-i-test.true c.requires in
    omega (arith, c.row_size_in-i.ensures.sized, s.2)

pub admits_members-loop-i-smaller : goal.admits_members-loop-i-smaller
admits_members-loop-i-smaller t c =
    let s = named.walk_step c.args.shapes.now c.args.from c.args.to c.args.nodes.now c.args.at
    c.args.end c.args.pool.now c.loop-i.invariant c.loop-i-test.true c.requires in
    omega (arith, c.row_size_in-i.ensures.sized, c.loop-i-test.true, s.0, s.2)

pub admits_members-loop-i-preserved : goal.admits_members-loop-i-preserved
admits_members-loop-i-preserved t c =
    named.walk_on c.args.shapes.now c.args.from c.args.to c.args.nodes.now c.args.at
    c.args.end c.args.pool.now c.loop-i.invariant
    c.loop-i-test.true c.find_named-named.result c.find_named-named.ensures.told
    c.in-Some.is c.admits_listed.ensures.told c.if-not-admits_listed.false c.row_size_in-i.ensures.sized

pub admits_members-returns : goal.admits_members-returns
admits_members-returns t c =
    record {
      told = named.walk_ends c.args.shapes.now c.args.from c.args.to c.args.nodes.now c.args.at
          c.args.end c.args.pool.now c.loop-i.invariant c.loop-i-test.false;
    }
