-- The proof of the cycle of calls {join_at, join_element, join_members, join_next, join_record}. The nesting left falls from
-- a shape to its members and its element; the loop's invariant is that `Merging` holds of every members that stand there. Assumes nothing.
use native.Mathlib.Omega.{arith}
use mathlib.Core.Path.{refl}
use Rattle.shapes.specs.ShapesLaws.{stands_size, stands_within, stands_row, fields_end, bit_tested}
use Rattle.std.specs.Prelude.{Some}
use Rattle.join.specs.Joining.{join_records}
use Rattle.join.proofs.Parts.{head_room, members_within}
use Rattle.join.proofs.Merging.{merging, merged}
use Rattle.join.proofs.Loop.{loop_bounds, loop_turns, loop_full, loop_again, loop_less}
use Rattle.join.proofs.Turning.{less_asks, less_turned, greater_asks, greater_turned, equal_asks, equal_turned}
use Rattle.join.proofs.Joining.{left_some, spans, record_none, record_asks, record_full, record_inner, record_grown}
use Rattle.join.proofs.Joining.{element_none, element_asks, element_full, element_inner, element_grown}
use Rattle.join.proofs.Whole.{members_full, members_joins, elements_full, head_asks, whole_grown}
use Rattle.join.proofs.Idle.{idle}
use Rattle.join.proofs.+join_at_join_element_join_members_join_next_join_record.Goals as goal

pub join_at-join_record-requires : goal.join_at-join_record-requires
join_at-join_record-requires t c =
    (omega (arith, c.decreases), c.requires)

pub join_at-returns-in_err-words : goal.join_at-returns-in_err-words
join_at-returns-in_err-words t c =
    record {
      joined = rw c.from_residual.ensures (λ p m k a b j. members_full j
          (c.in_err-words.ensures.joined p m k a b j));
    }

pub join_at-overflow_add-used : goal.join_at-overflow_add-used
join_at-overflow_add-used t c =
    let w = c.requires in
    let q = c.in_ok-words.ensures.joined _ _ _ _ _ w.joins in
    omega (arith, q.replaced.within, w.small)

pub join_at-join_element-requires : goal.join_at-join_element-requires
join_at-join_element-requires t c =
    let w = c.requires in
    let q = c.in_ok-words.ensures.joined _ _ _ _ _ w.joins in (
      omega (arith, c.decreases),
      record {
        p = w.p;
        name = w.name;
        other_name = w.other_name;
        ours = join_records w.ours w.theirs;
        theirs = w.theirs;
        joins = members_joins w.joins q;
        small = omega (arith, q.replaced.same, w.small);
      },
    )

pub join_at-returns-in_err-more : goal.join_at-returns-in_err-more
join_at-returns-in_err-more t c =
    record {
      joined = rw c.from_residual-in_err-more.ensures (λ p m k a b j. let q = c.in_ok-words.ensures.joined p m k a b j in
          elements_full j q
          (c.in_err-more.ensures.joined _ _ _ _ _ (members_joins j q)));
    }

pub join_at-put_head-requires : goal.join_at-put_head-requires
join_at-put_head-requires t c =
    let w = c.requires in
    let q = c.in_ok-words.ensures.joined _ _ _ _ _ w.joins in
    let v = c.in_ok-more.ensures.joined _ _ _ _ _ (members_joins w.joins q) in
    let facts = head_asks w.joins q v c.kinds.ensures.read c.kinds-2.ensures.read
    c.union-kinds.ensures.made c.size-size.ensures.read w.small in record { row_in_bounds = facts.0; fits = facts.1 }

pub join_at-overflow_add-result : goal.join_at-overflow_add-result
join_at-overflow_add-result t c =
    let w = c.requires in
    let q = c.in_ok-words.ensures.joined _ _ _ _ _ w.joins in
    let v = c.in_ok-more.ensures.joined _ _ _ _ _ (members_joins w.joins q) in
    omega (arith, v.replaced.within, q.replaced.same, w.small)

pub join_at-returns : goal.join_at-returns
join_at-returns t c =
    record {
      joined = λ p m k a b j. let q = c.in_ok-words.ensures.joined p m k a b j in
          let v = c.in_ok-more.ensures.joined _ _ _ _ _ (members_joins j q) in
          whole_grown j q v c.kinds.ensures.read c.kinds-2.ensures.read c.union-kinds.ensures.made
          c.size-size.ensures.read
          c.put_head.ensures.put c.put_head.auto.shapes;
    }

pub join_element-returns-then-not-has : goal.join_element-returns-then-not-has
join_element-returns-then-not-has t c =
    record { joined = λ p m k a b j. element_none (bit_tested 32 c.kinds.ensures.read c.if-not-has.ensures.told) a b j }

pub join_element-put_element-requires : goal.join_element-put_element-requires
join_element-put_element-requires t c =
    let w = c.requires in
    record {
      beside = record {
        p = w.p;
        name = w.name;
        other_name = w.other_name;
        ours = w.ours;
        theirs = w.theirs;
        both = w.joins.both;
        small = w.small;
      };
      lacks = bit_tested 32 c.kinds-2.ensures.read c.if-not-has-2.ensures.told;
      there = bit_tested 32 c.kinds.ensures.read c.if-not-has.ensures.told;
    }

pub join_element-returns-then-not-has-2 : goal.join_element-returns-then-not-has-2
join_element-returns-then-not-has-2 t c =
    record { joined = λ p m k a b j. c.put_element.ensures.put p m k a b j.both }

pub join_element-overflow_add-other : goal.join_element-overflow_add-other
join_element-overflow_add-other t c =
    let w = c.requires in
    omega (arith, stands_row w.joins.both.theirs, c.well_formed.1.1.1.0.0)

pub join_element-overflow_sub-left : goal.join_element-overflow_sub-left
join_element-overflow_sub-left t c =
    let s = c.args in
    let w = c.requires in
    omega (arith, left_some w.theirs s.left w.joins.nests)

pub join_element-join_at-requires : goal.join_element-join_at-requires
join_element-join_at-requires t c =
    let s = c.args in
    let w = c.requires in (
      omega (arith, c.decreases, left_some w.theirs s.left w.joins.nests),
      element_asks (bit_tested 32 c.kinds-2.ensures.read c.if-not-has-2.ensures.told)
          (bit_tested 32 c.kinds.ensures.read c.if-not-has.ensures.told) w.ours
          w.theirs w.joins w.small,
    )

pub join_element-returns-in_err-words : goal.join_element-returns-in_err-words
join_element-returns-in_err-words t c =
    record {
      joined = rw c.from_residual.ensures (λ p m k u v j. element_full
          (bit_tested 32 c.kinds-2.ensures.read c.if-not-has-2.ensures.told)
          (bit_tested 32 c.kinds.ensures.read c.if-not-has.ensures.told)
          c.join_at.new.shapes c.in_err-words.ensures.joined u v j);
    }

pub join_element-grow_head-requires : goal.join_element-grow_head-requires
join_element-grow_head-requires t c =
    let s = c.args in
    let w = c.requires in
    let i = element_inner
    (bit_tested 32 c.kinds-2.ensures.read c.if-not-has-2.ensures.told)
    (bit_tested 32 c.kinds.ensures.read c.if-not-has.ensures.told)
    c.join_at.new.shapes c.in_ok-words.ensures.joined w.ours
    w.theirs w.joins in
    let facts = head_room s.row 0 i.2.replaced w.joins.both.ours (omega arith) i.3 w.joins.both.used_within w.small (omega arith) in
    record { row_in_bounds = facts.0; fits = facts.1 }

pub join_element-returns : goal.join_element-returns
join_element-returns t c =
    record {
      joined = λ p m k u v j. element_grown
          (bit_tested 32 c.kinds-2.ensures.read c.if-not-has-2.ensures.told)
          (bit_tested 32 c.kinds.ensures.read c.if-not-has.ensures.told)
          c.join_at.new.shapes c.in_ok-words.ensures.joined c.grow_head.ensures.told c.grow_head.auto.shapes u v j;
    }

pub join_members-loop-i-init : goal.join_members-loop-i-init
join_members-loop-i-init t c p fs gs w =
    merging w

pub join_members-overflow_add-i : goal.join_members-overflow_add-i
join_members-overflow_add-i t c =
    let b = loop_bounds c.requires c.loop-i.invariant in
    omega (arith, c.well_formed.1.1.1.1.0.0)

pub join_members-overflow_add-end : goal.join_members-overflow_add-end
join_members-overflow_add-end t c =
    let b = loop_bounds c.requires c.loop-i.invariant in
    omega (arith, c.well_formed.1.1.1.1.0.0)

pub join_members-overflow_add-end-in-loop-i : goal.join_members-overflow_add-end-in-loop-i
join_members-overflow_add-end-in-loop-i t c =
    let b = loop_bounds c.requires c.loop-i.invariant in
    omega (arith, c.well_formed.1.1.1.1.0.0)

pub join_members-overflow_add-end-in-loop-i-2 : goal.join_members-overflow_add-end-in-loop-i-2
join_members-overflow_add-end-in-loop-i-2 t c =
    let b = loop_bounds c.requires c.loop-i.invariant in
    omega (arith, c.well_formed.1.1.1.1.0.0)

pub join_members-overflow_add-used : goal.join_members-overflow_add-used
join_members-overflow_add-used t c =
    let b = loop_bounds c.requires c.loop-i.invariant in
    omega (arith, c.well_formed.1.1.1.1.0.0)

pub join_members-join_next-requires : goal.join_members-join_next-requires
join_members-join_next-requires t c = (
  omega (arith, c.decreases),
  loop_turns c.loop-i.invariant c.next_member-order.ensures.told c.loop-i-test.true c.requires,
)

pub join_members-returns-in_err-more : goal.join_members-returns-in_err-more
join_members-returns-in_err-more t c =
    record {
      merged = rw c.from_residual.ensures (loop_full c.loop-i.invariant c.next_member-order.ensures.told c.loop-i-test.true
          c.join_next.new.shapes c.in_err-more.ensures.turned);
    }

pub join_members-overflow_add-i-in-loop-i : goal.join_members-overflow_add-i-in-loop-i
join_members-overflow_add-i-in-loop-i t c =
    let l = loop_bounds c.requires (loop_again c.loop-i.invariant c.next_member-order.ensures.told
    c.loop-i-test.true c.join_next.new.shapes c.in_ok-more.ensures.turned
    c.size-i.result _ c.size-i.ensures.read refl) in
    omega arith

pub join_members-loop-i-preserved : goal.join_members-loop-i-preserved
join_members-loop-i-preserved t c =
    loop_again c.loop-i.invariant c.next_member-order.ensures.told c.loop-i-test.true
    c.join_next.new.shapes c.in_ok-more.ensures.turned c.size-i.result c.second_step-j.result
    c.size-i.ensures.read c.second_step-j.ensures.told

pub join_members-overflow_add-j : goal.join_members-overflow_add-j
join_members-overflow_add-j t c =
    let l = loop_bounds c.requires (join_members-loop-i-preserved t c) in
    omega (arith, c.well_formed.1.1.1.1.0.0)

pub join_members-overflow_add-words : goal.join_members-overflow_add-words
join_members-overflow_add-words t c =
    let l = loop_bounds c.requires (join_members-loop-i-preserved t c) in
    omega arith

pub join_members-loop-i-smaller : goal.join_members-loop-i-smaller
join_members-loop-i-smaller t c =
    loop_less c.loop-i.invariant c.next_member-order.ensures.told c.loop-i-test.true
    c.join_next.new.shapes c.in_ok-more.ensures.turned c.size-i.result c.second_step-j.result
    c.size-i.ensures.read c.second_step-j.ensures.told c.requires

pub join_members-returns : goal.join_members-returns
join_members-returns t c =
    record { merged = λ p fs gs v. merged (c.loop-i.invariant p fs gs v) c.args.end (fields_end v.walk.ours) v.within v.used_within c.loop-i-test.false }

pub join_next-add_null-requires : goal.join_next-add_null-requires
join_next-add_null-requires t c =
    let w = c.requires in
    let facts = less_asks c.in-Less.is w.walks w.next w.small in record { row_in_bounds = facts.0; fits = facts.1 }

pub join_next-returns-then-adds_nothing : goal.join_next-returns-then-adds_nothing
join_next-returns-then-adds_nothing t c =
    record {
      turned = λ p end to fs gs n u old fs' gs' w v. equal_turned c.args.shapes.now (Some 0) c.in-Equal.is
          (idle (c.adds_nothing.ensures.told c.if-adds_nothing.true)) w v;
    }

pub join_next-join_at-requires : goal.join_next-join_at-requires
join_next-join_at-requires t c =
    let w = c.requires in
    (omega (arith, c.decreases), equal_asks c.in-Equal.is w.walks w.next w.small)

pub join_next-put_member-requires : goal.join_next-put_member-requires
join_next-put_member-requires t c =
    let w = c.requires in
    greater_asks c.in-Greater.is w.walks w.next w.small

pub join_next-returns-in-Less : goal.join_next-returns-in-Less
join_next-returns-in-Less t c =
    record { turned = λ p end to fs gs n u old fs' gs' w v. less_turned c.in-Less.is c.add_null.ensures.added c.add_null.auto.shapes w v }

pub join_next-returns-else-adds_nothing : goal.join_next-returns-else-adds_nothing
join_next-returns-else-adds_nothing t c =
    record {
      turned = λ p end to fs gs n u old fs' gs' w v. equal_turned c.join_at.new.shapes c.join_at.result
          c.in-Equal.is
          c.join_at.ensures.joined w v;
    }

pub join_next-returns-in-Greater : goal.join_next-returns-in-Greater
join_next-returns-in-Greater t c =
    record {
      turned = λ p end to fs gs n u old fs' gs' w v. greater_turned c.put_member.new.shapes c.put_member.result c.in-Greater.is
          c.put_member.ensures.put w v;
    }

pub join_record-returns-then-not-has : goal.join_record-returns-then-not-has
join_record-returns-then-not-has t c =
    record { joined = λ p m k a b j. record_none (bit_tested 64 c.kinds.ensures.read c.if-not-has.ensures.told) a b j }

pub join_record-put_members-requires : goal.join_record-put_members-requires
join_record-put_members-requires t c =
    let w = c.requires in
    record {
      beside = record {
        p = w.p;
        name = w.name;
        other_name = w.other_name;
        ours = w.ours;
        theirs = w.theirs;
        both = w.joins.both;
        small = w.small;
      };
      lacks = bit_tested 64 c.kinds-2.ensures.read c.if-not-has-2.ensures.told;
      there = bit_tested 64 c.kinds.ensures.read c.if-not-has.ensures.told;
    }

pub join_record-returns-then-not-has-2 : goal.join_record-returns-then-not-has-2
join_record-returns-then-not-has-2 t c =
    record { joined = λ p m k a b j. c.put_members.ensures.put p m k a b j.both }

pub join_record-members-at-requires : goal.join_record-members-at-requires
join_record-members-at-requires t c =
    let w = c.requires in
    record { row_in_bounds = stands_row w.joins.both.ours; within = members_within w.ours w.joins.both.ours (omega (arith, w.small)) }

pub join_record-overflow_add-end : goal.join_record-overflow_add-end
join_record-overflow_add-end t c =
    let w = c.requires in
    omega (arith, c.size.ensures.read, stands_size w.joins.both.ours, w.joins.both.within, w.joins.both.used_within, w.small)

pub join_record-members-from-requires : goal.join_record-members-from-requires
join_record-members-from-requires t c =
    let w = c.requires in
    record { row_in_bounds = stands_row w.joins.both.theirs; within = members_within w.theirs w.joins.both.theirs c.well_formed.1.1.1.0.0 }

pub join_record-overflow_add-to : goal.join_record-overflow_add-to
join_record-overflow_add-to t c =
    let w = c.requires in
    omega (arith, c.size-2.ensures.read, stands_size w.joins.both.theirs, stands_within w.joins.both.theirs, c.well_formed.1.1.1.0.0)

pub join_record-overflow_sub-left : goal.join_record-overflow_sub-left
join_record-overflow_sub-left t c =
    let s = c.args in
    let w = c.requires in
    omega (arith, left_some w.theirs s.left w.joins.nests)

pub join_record-join_members-requires : goal.join_record-join_members-requires
join_record-join_members-requires t c =
    let s = c.args in
    let w = c.requires in
    let z = spans s.shapes.now s.second.now s.row s.other c.members-at.ensures.found c.size.ensures.read
    c.members-from.ensures.found c.size-2.ensures.read in
    let b = bit_tested 64 c.kinds-2.ensures.read c.if-not-has-2.ensures.told in
    let d = bit_tested 64 c.kinds.ensures.read c.if-not-has.ensures.told in
    (omega (arith, c.decreases, left_some w.theirs s.left w.joins.nests), record_asks z b d w.ours w.theirs w.joins w.small)

pub join_record-returns-in_err-words : goal.join_record-returns-in_err-words
join_record-returns-in_err-words t c =
    record {
      joined = rw c.from_residual.ensures (λ p m k u v j. let s = c.args in
          let z = spans s.shapes.now s.second.now s.row s.other c.members-at.ensures.found c.size.ensures.read
          c.members-from.ensures.found c.size-2.ensures.read in
          let b = bit_tested 64 c.kinds-2.ensures.read c.if-not-has-2.ensures.told in
          let d = bit_tested 64 c.kinds.ensures.read c.if-not-has.ensures.told in
          record_full z b d c.join_members.new.shapes c.in_err-words.ensures.merged u v j);
    }

pub join_record-grow_head-requires : goal.join_record-grow_head-requires
join_record-grow_head-requires t c =
    let s = c.args in
    let w = c.requires in
    let z = spans s.shapes.now s.second.now s.row s.other c.members-at.ensures.found c.size.ensures.read
    c.members-from.ensures.found c.size-2.ensures.read in
    let b = bit_tested 64 c.kinds-2.ensures.read c.if-not-has-2.ensures.told in
    let d = bit_tested 64 c.kinds.ensures.read c.if-not-has.ensures.told in
    let i = record_inner z b d c.join_members.new.shapes c.in_ok-words.ensures.merged w.ours w.theirs w.joins in
    let facts = head_room s.row 0 i.2.replaced w.joins.both.ours i.3 i.4 w.joins.both.used_within w.small (omega arith) in
    record { row_in_bounds = facts.0; fits = facts.1 }

pub join_record-returns : goal.join_record-returns
join_record-returns t c =
    record {
      joined = λ p m k u v j. let s = c.args in
          let z = spans s.shapes.now s.second.now s.row s.other c.members-at.ensures.found c.size.ensures.read
          c.members-from.ensures.found c.size-2.ensures.read in
          let b = bit_tested 64 c.kinds-2.ensures.read c.if-not-has-2.ensures.told in
          let d = bit_tested 64 c.kinds.ensures.read c.if-not-has.ensures.told in
          record_grown z b d c.join_members.new.shapes c.in_ok-words.ensures.merged c.grow_head.ensures.told c.grow_head.auto.shapes u v j;
    }
