-- `checking::places::member` meets its contract. Assumes nothing.
use native.Mathlib.Omega.{arith}
use Rattle.laws.specs.Bools.{not_true}
use Rattle.checking.proofs.Members.{row_ends, unmet, without, members_before, listed_asked, member_missing, member_found}
use Rattle.std.proofs.Common.{ap, not}
use Rattle.checking.proofs.places.member.Goals as goal

pub returns-then-not-is_within : goal.returns-then-not-is_within
returns-then-not-is_within c =
    record {
      found = unmet c.args.shapes.now c.args.pool.now c.args.of.row c.args.of.kinds.kinds c.args.name
          c.args.place c.is_within.ensures.told (not_true c.is_within.result (ap not c.if-not-is_within.true));
    }

pub returns-then-not-has : goal.returns-then-not-has
returns-then-not-has c =
    record {
      found = without c.args.shapes.now c.args.pool.now c.args.of.row c.args.of.kinds.kinds c.args.name
          c.args.place c.is_within.ensures.told c.if-not-is_within.false c.has.ensures.told
          (not_true c.has.result (ap not c.if-not-has.true));
    }

pub members-from-requires : goal.members-from-requires
members-from-requires c =
    let within = members_before c.args.shapes.now c.args.pool.now c.args.of.row c.args.of.kinds.kinds c.args.name
    c.args.place c.is_within.ensures.told c.if-not-is_within.false c.has.ensures.told
    c.if-not-has.false c.requires in
    record { row_in_bounds = within.0; within = omega (arith, within.1, within.2, c.well_formed) }

pub overflow_add-end : goal.overflow_add-end
overflow_add-end c =
    omega (arith, row_ends c.requires.meets.bound, c.size.ensures.read, c.well_formed)

pub find_named-requires : goal.find_named-requires
find_named-requires c =
    listed_asked c.args.shapes.now c.args.pool.now c.args.of.row c.args.of.kinds.kinds c.args.name
    c.args.place c.is_within.ensures.told c.if-not-is_within.false c.has.ensures.told
    c.if-not-has.false
    c.members-from.ensures.found c.size.ensures.read c.requires

pub returns-in_default : goal.returns-in_default
returns-in_default c =
    record {
      found = member_missing c.args.shapes.now c.args.pool.now c.args.of.row c.args.of.kinds.kinds c.args.name
          c.args.place c.is_within.ensures.told c.if-not-is_within.false c.has.ensures.told
          c.if-not-has.false
          c.members-from.ensures.found c.size.ensures.read c.find_named.ensures.told
          c.in_default.is;
    }

pub returns : goal.returns
returns c =
    record {
      found = member_found c.args.shapes.now c.args.pool.now c.args.of.row c.args.of.kinds.kinds c.args.name
          c.args.place c.is_within.ensures.told c.if-not-is_within.false c.has.ensures.told
          c.if-not-has.false
          c.members-from.ensures.found c.size.ensures.read c.find_named.ensures.told
          c.in-Some.is c.kinds.ensures.read c.gain_null.ensures.told;
    }
