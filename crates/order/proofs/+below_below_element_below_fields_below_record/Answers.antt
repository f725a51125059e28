-- The proof of the cycle of calls {below, below_element, below_fields, below_record}: the nesting left falls. Assumes nothing.
use native.Mathlib.Omega.{arith}
use Rattle.shapes.specs.HeldLaws.{held_within, some_listed, members_within}
use Rattle.order.proofs.Named as named
use Rattle.order.proofs.Wholes.{some_level, Passed, kinds_fail, kinds_pass, parts_asked, element_fails, record_tells, without_list}
use Rattle.order.proofs.Wholes.{list_asks, list_told, without_rec, records_here, nulls_asks, fields_asks, fields_fail, nulls_told}
use Rattle.order.proofs.+below_below_element_below_fields_below_record.Goals as goal

pub below-below_element-requires : goal.below-below_element-requires
below-below_element-requires t c =
    let passed : Passed c.args.first.now c.args.a c.args.second.now c.args.b c.args.pool.now =
    kinds_pass c.args.first.now c.args.a c.args.second.now c.args.b c.args.pool.now
    c.kinds.ensures.read c.kinds-2.ensures.read c.is_within.ensures.told c.if-not-is_within.false in (
      omega (arith, c.decreases, c.requires.deep, some_level c.requires.shape),
      parts_asked c.args.first.now c.args.a c.args.second.now c.args.b c.args.pool.now
          passed c.requires,
    )

pub below-returns-else-below_element : goal.below-returns-else-below_element
below-returns-else-below_element t c =
    record {
      told = rw c.if-below_element.false (element_fails c.args.first.now c.args.a c.args.second.now c.args.b c.args.pool.now
          (kinds_pass c.args.first.now c.args.a c.args.second.now c.args.b c.args.pool.now
          c.kinds.ensures.read c.kinds-2.ensures.read c.is_within.ensures.told c.if-not-is_within.false)
          c.below_element.ensures.told c.if-below_element.false);
    }

pub below-returns-then-not-is_within : goal.below-returns-then-not-is_within
below-returns-then-not-is_within t c =
    record {
      told = kinds_fail c.args.first.now c.args.a c.args.second.now c.args.b c.args.pool.now
          c.kinds.ensures.read c.kinds-2.ensures.read c.is_within.ensures.told c.if-not-is_within.true;
    }

pub below-below_record-requires : goal.below-below_record-requires
below-below_record-requires t c =
    let passed : Passed c.args.first.now c.args.a c.args.second.now c.args.b c.args.pool.now =
    kinds_pass c.args.first.now c.args.a c.args.second.now c.args.b c.args.pool.now
    c.kinds.ensures.read c.kinds-2.ensures.read c.is_within.ensures.told c.if-not-is_within.false in (
      omega (arith, c.decreases, c.requires.deep, some_level c.requires.shape),
      parts_asked c.args.first.now c.args.a c.args.second.now c.args.b c.args.pool.now
          passed c.requires,
    )

pub below-returns-then-below_element : goal.below-returns-then-below_element
below-returns-then-below_element t c =
    let passed : Passed c.args.first.now c.args.a c.args.second.now c.args.b c.args.pool.now =
    kinds_pass c.args.first.now c.args.a c.args.second.now c.args.b c.args.pool.now
    c.kinds.ensures.read c.kinds-2.ensures.read c.is_within.ensures.told c.if-not-is_within.false in
    record {
      told = record_tells c.args.first.now c.args.a c.args.second.now c.args.b c.args.pool.now
          passed c.below_element.ensures.told c.if-below_element.true
          c.below_record.ensures.told;
    }

pub below_element-overflow_add-a : goal.below_element-overflow_add-a
below_element-overflow_add-a t c =
    omega (arith, (held_within c.requires.asked.held).0, (held_within c.requires.asked.held).1)

pub below_element-overflow_add-b : goal.below_element-overflow_add-b
below_element-overflow_add-b t c =
    omega (arith, (held_within c.requires.asked.holds).0, (held_within c.requires.asked.holds).1)

pub below_element-overflow_sub-left : goal.below_element-overflow_sub-left
below_element-overflow_sub-left t c =
    omega (arith, c.requires.asked.deep, some_level c.requires.asked.shape)

pub below_element-below-requires : goal.below_element-below-requires
below_element-below-requires t c = (
  omega (arith, c.decreases, c.requires.asked.deep, some_level c.requires.asked.shape),
  list_asks c.args.first.now c.args.a c.args.second.now c.args.b c.args.pool.now
      c.kinds.ensures.read c.has.ensures.told c.if-not-has.false c.requires,
)

pub below_element-returns-else-not-has : goal.below_element-returns-else-not-has
below_element-returns-else-not-has t c =
    record {
      told = list_told c.args.first.now c.args.a c.args.second.now c.args.b c.args.pool.now
          c.kinds.ensures.read c.has.ensures.told c.if-not-has.false c.below.ensures.told;
    }

pub below_element-returns-then-not-has : goal.below_element-returns-then-not-has
below_element-returns-then-not-has t c =
    record {
      told = rw c.if-not-has.true (without_list c.args.first.now c.args.a c.args.second.now c.args.b c.args.pool.now
          c.kinds.ensures.read c.has.ensures.told c.if-not-has.true);
    }

pub below_fields-loop-i-init : goal.below_fields-loop-i-init
below_fields-loop-i-init t c =
    named.walk_begins c.args.first.now c.args.from c.args.to c.args.second.now c.args.at
    c.args.end c.args.pool.now

pub below_fields-find_named-named-requires : goal.below_fields-find_named-named-requires
below_fields-find_named-named-requires t c =
    some_listed c.requires.asked.holds

pub below_fields-returns-in_default : goal.below_fields-returns-in_default
below_fields-returns-in_default t c =
    record {
      told = named.walk_misses c.args.first.now c.args.from c.args.to c.args.second.now c.args.at
          c.args.end c.args.pool.now c.loop-i.invariant c.loop-i-test.true
          c.find_named-named.result c.name.ensures.read
          c.find_named-named.ensures.told c.in_default.is;
    }

pub below_fields-below-requires : goal.below_fields-below-requires
below_fields-below-requires t c = (
  omega (arith, c.decreases),
  named.walk_asks c.args.first.now c.args.from c.args.to c.args.second.now c.args.at
      c.args.end c.args.pool.now c.loop-i.invariant
      c.loop-i-test.true
      c.find_named-named.result c.name.ensures.read
      c.find_named-named.ensures.told c.in-Some.is c.requires,
)

pub below_fields-returns-then-not-below : goal.below_fields-returns-then-not-below
below_fields-returns-then-not-below t c =
    record {
      told = named.walk_fails c.args.first.now c.args.from c.args.to c.args.second.now c.args.at
          c.args.end c.args.pool.now c.loop-i.invariant c.loop-i-test.true
          c.find_named-named.result c.name.ensures.read
          c.find_named-named.ensures.told c.in-Some.is
          c.below.ensures.told c.if-not-below.true;
    }

pub below_fields-overflow_add-i : goal.below_fields-overflow_add-i
below_fields-overflow_add-i t c =
    let s = named.walk_step c.args.first.now c.args.from c.args.to c.args.second.now c.args.at
    c.args.end c.args.pool.now c.loop-i.invariant c.loop-i-test.true c.requires in
    omega (arith, c.size-i.ensures.read, s.1)

pub below_fields-loop-i-smaller : goal.below_fields-loop-i-smaller
below_fields-loop-i-smaller t c =
    let s = named.walk_step c.args.first.now c.args.from c.args.to c.args.second.now c.args.at
    c.args.end c.args.pool.now c.loop-i.invariant c.loop-i-test.true c.requires in
    omega (arith, c.size-i.ensures.read, c.loop-i-test.true, s.0, s.1)

pub below_fields-loop-i-preserved : goal.below_fields-loop-i-preserved
below_fields-loop-i-preserved t c =
    named.walk_on c.args.first.now c.args.from c.args.to c.args.second.now c.args.at
    c.args.end c.args.pool.now c.loop-i.invariant c.loop-i-test.true
    c.find_named-named.result c.name.ensures.read
    c.find_named-named.ensures.told c.in-Some.is
    c.below.ensures.told c.if-not-below.false c.size-i.ensures.read

pub below_fields-returns : goal.below_fields-returns
below_fields-returns t c =
    record {
      told = named.walk_ends c.args.first.now c.args.from c.args.to c.args.second.now c.args.at
          c.args.end c.args.pool.now c.loop-i.invariant c.loop-i-test.false;
    }

pub below_record-members-from-requires : goal.below_record-members-from-requires
below_record-members-from-requires t c =
    record {
      row_in_bounds = omega (arith, (held_within c.requires.asked.held).0, (held_within c.requires.asked.held).1);
      within = omega (
        arith,
        members_within (records_here c.args.first.now c.args.a c.args.second.now c.args.b
            c.args.pool.now c.kinds.ensures.read c.has.ensures.told c.if-not-has.false c.requires).held,
        (held_within c.requires.asked.held).1,
      );
    }

pub below_record-overflow_add-to : goal.below_record-overflow_add-to
below_record-overflow_add-to t c =
    omega (arith, (held_within c.requires.asked.held).1, c.size.ensures.read)

pub below_record-members-at-requires : goal.below_record-members-at-requires
below_record-members-at-requires t c =
    record {
      row_in_bounds = omega (arith, (held_within c.requires.asked.holds).0, (held_within c.requires.asked.holds).1);
      within = omega (
        arith,
        members_within (records_here c.args.first.now c.args.a c.args.second.now c.args.b
            c.args.pool.now c.kinds.ensures.read c.has.ensures.told c.if-not-has.false
            c.requires).holds,
        (held_within c.requires.asked.holds).1,
      );
    }

pub below_record-overflow_add-end : goal.below_record-overflow_add-end
below_record-overflow_add-end t c =
    omega (arith, (held_within c.requires.asked.holds).1, c.size-2.ensures.read)

pub below_record-overflow_sub-left : goal.below_record-overflow_sub-left
below_record-overflow_sub-left t c =
    omega (arith, c.requires.asked.deep, some_level c.requires.asked.shape)

pub below_record-below_fields-requires : goal.below_record-below_fields-requires
below_record-below_fields-requires t c = (
  omega (arith, c.decreases, c.requires.asked.deep, some_level c.requires.asked.shape),
  fields_asks c.args.first.now c.args.a c.args.second.now c.args.b c.args.pool.now
      c.kinds.ensures.read c.has.ensures.told c.if-not-has.false c.members-from.ensures.found
      c.size.ensures.read c.members-at.ensures.found c.size-2.ensures.read c.requires,
)

pub below_record-returns-else-below_fields : goal.below_record-returns-else-below_fields
below_record-returns-else-below_fields t c =
    record {
      told = rw c.if-below_fields.false (fields_fail c.args.first.now c.args.a c.args.second.now c.args.b c.args.pool.now
          c.kinds.ensures.read c.has.ensures.told c.if-not-has.false
          c.members-from.ensures.found c.size.ensures.read c.members-at.ensures.found c.size-2.ensures.read
          c.below_fields.ensures.told c.if-below_fields.false);
    }

pub below_record-lacked_have_null-requires : goal.below_record-lacked_have_null-requires
below_record-lacked_have_null-requires t c =
    nulls_asks c.args.first.now c.args.a c.args.second.now c.args.b c.args.pool.now
    c.kinds.ensures.read c.has.ensures.told c.if-not-has.false
    c.members-from.ensures.found c.size.ensures.read c.members-at.ensures.found
    c.size-2.ensures.read c.requires

pub below_record-returns-then-below_fields : goal.below_record-returns-then-below_fields
below_record-returns-then-below_fields t c =
    record {
      told = nulls_told c.args.first.now c.args.a c.args.second.now c.args.b c.args.pool.now
          c.kinds.ensures.read c.has.ensures.told c.if-not-has.false
          c.members-from.ensures.found c.size.ensures.read c.members-at.ensures.found
          c.size-2.ensures.read
          c.below_fields.ensures.told c.if-below_fields.true c.lacked_have_null.ensures.told;
    }

pub below_record-returns-then-not-has : goal.below_record-returns-then-not-has
below_record-returns-then-not-has t c =
    record {
      told = without_rec c.args.first.now c.args.a c.args.second.now c.args.b c.args.pool.now
          c.kinds.ensures.read c.has.ensures.told c.if-not-has.true;
    }
