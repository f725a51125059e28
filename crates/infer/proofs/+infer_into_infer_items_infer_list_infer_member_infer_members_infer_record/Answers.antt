-- The proof of the cycle of calls that joins a value into a shape. Each call goes on at a later row of the node table or,
-- from parts to their first value, at the same one: the measures are thrice what is left of that table, and less than three
-- more. The loops' invariants are `ItemsLoop` and `MembersLoop`. Assumes nothing.
use Prim.Native.Nat.{ℕ, ◌+◌}
use native.Mathlib.Omega.{arith}
use mathlib.Core.Path.{refl, sym, ap, ◌∙◌}
use Rattle.nodes.specs.StandingLaws.{size_some, value_size, value_within}
use Rattle.shapes.specs.ShapesLaws.{kind_bits_lt, stands_row, stands_size, stands_within}
use Rattle.growing.specs.Growing.{member_start}
use Rattle.growing.specs.RecordLaws.{record_first}
use Rattle.infer.proofs.Scalars.{kind_told}
use Rattle.infer.proofs.Into.{scalar_code}
use Rattle.infer.proofs.Items.{items_begin, items_inferable, items_size, items_row}
use Rattle.infer.proofs.Items.{items_room, items_full, items_loop_on, items_grown, items_end}
use Rattle.infer.proofs.Lists.{list_full_first, list_inferable, list_room_then, list_full_then, list_raise_fits, list_grown, list_answer}
use Rattle.infer.proofs.Members.{listed_inferable, listed_answer, never_placed, new_inside, new_full_first}
use Rattle.infer.proofs.Members.{new_inferable, new_room_then, new_full_then, new_answer, new_grown}
use Rattle.infer.proofs.Walk.{members_begin, members_inferable, members_size, members_row}
use Rattle.infer.proofs.Walk.{members_room, members_full, members_loop_on, members_grown, members_end}
use Rattle.infer.proofs.Records.{record_inferable, record_full, record_nulls, record_room, record_grown, record_raise_fits, record_answer}
use Rattle.infer.proofs.+infer_into_infer_items_infer_list_infer_member_infer_members_infer_record.Goals as goal

pub infer_into-infer_list-requires : goal.infer_into-infer_list-requires
infer_into-infer_list-requires t c =
    (omega (arith, c.decreases), (c.requires.inferable, (c.requires.room, sym c.row_kind.ensures.read ∙ c.in-5.is)))

pub infer_into-shape_of-shapes-in-5 : goal.infer_into-shape_of-shapes-in-5
infer_into-shape_of-shapes-in-5 t c =
    c.infer_list.auto.shapes

pub infer_into-returns-in-5 : goal.infer_into-returns-in-5
infer_into-returns-in-5 t c =
    record { inferred = c.infer_list.ensures.inferred }

pub infer_into-infer_record-requires : goal.infer_into-infer_record-requires
infer_into-infer_record-requires t c =
    (omega (arith, c.decreases), (c.requires.inferable, (c.requires.room, sym c.row_kind.ensures.read ∙ c.in-6.is)))

pub infer_into-shape_of-shapes-in-6 : goal.infer_into-shape_of-shapes-in-6
infer_into-shape_of-shapes-in-6 t c =
    c.infer_record.auto.shapes

pub infer_into-returns-in-6 : goal.infer_into-returns-in-6
infer_into-returns-in-6 t c =
    record { inferred = c.infer_record.ensures.inferred }

pub infer_into-infer_leaf-requires : goal.infer_into-infer_leaf-requires
infer_into-infer_leaf-requires t c =
    let w = c.requires.inferable in
    let l = scalar_code w.value (kind_told w.meets.held c.row_kind.ensures.read) (λ x. omega (arith, x, c.in_default))
    (λ x. omega (arith, x, c.in_default)) in
    record { inferable = w; room = c.requires.room; leaf = omega (arith, l, kind_told w.meets.held refl) }

pub infer_into-shape_of-shapes-in_default : goal.infer_into-shape_of-shapes-in_default
infer_into-shape_of-shapes-in_default t c =
    c.infer_leaf.auto.shapes

pub infer_into-returns-in_default : goal.infer_into-returns-in_default
infer_into-returns-in_default t c =
    record { inferred = c.infer_leaf.ensures.inferred }

pub infer_items-loop-i-init : goal.infer_items-loop-i-init
infer_items-loop-i-init t c =
    items_begin _ _ _ _ _ _ _ c.requires.room.enough

pub infer_items-overflow_add-used : goal.infer_items-overflow_add-used
infer_items-overflow_add-used t c =
    omega (
      arith,
      items_room c.requires.room c.loop-i.invariant c.loop-i-test.true c.requires.items_inferable.meets,
      c.requires.room.small,
    )

pub infer_items-infer_into-requires : goal.infer_items-infer_into-requires
infer_items-infer_into-requires t c =
    let room = c.requires.room in
    let w = c.requires.items_inferable in
    let l = c.loop-i.invariant in
    let z = items_size room l c.loop-i-test.true w.meets in (
      omega (arith, c.decreases, l.ahead, z.0, z.1),
      (
        items_inferable room l c.loop-i-test.true w,
        record {
          enough = omega (arith, items_room room l c.loop-i-test.true w.meets, l.same);
          small = omega (arith, room.small, l.same);
        },
      ),
    )

pub infer_items-returns-in_err-grown : goal.infer_items-returns-in_err-grown
infer_items-returns-in_err-grown t c =
    record {
      inferred = rw c.from_residual.ensures (items_full c.requires.room c.loop-i.invariant c.loop-i-test.true
          c.infer_into.new.shapes c.infer_into.result c.infer_into.ensures.inferred c.in_err-grown.was);
    }

pub infer_items-overflow_add-grown : goal.infer_items-overflow_add-grown
infer_items-overflow_add-grown t c =
    omega (
      arith,
      items_grown c.requires.room c.loop-i.invariant c.loop-i-test.true
          c.infer_into.new.shapes c.infer_into.result c.infer_into.ensures.inferred
          c.in_ok-grown.was c.requires.items_inferable,
      c.requires.room.small,
    )

pub infer_items-row_size_in-requires : goal.infer_items-row_size_in-requires
infer_items-row_size_in-requires t c =
    items_row c.requires.room c.loop-i.invariant c.loop-i-test.true c.requires.items_inferable.meets

pub infer_items-overflow_add-i : goal.infer_items-overflow_add-i
infer_items-overflow_add-i t c =
    let z = items_size c.requires.room c.loop-i.invariant c.loop-i-test.true c.requires.items_inferable.meets in
    omega (arith, z.1, c.row_size_in.ensures.sized)

pub infer_items-loop-i-smaller : goal.infer_items-loop-i-smaller
infer_items-loop-i-smaller t c =
    let z = items_size c.requires.room c.loop-i.invariant c.loop-i-test.true c.requires.items_inferable.meets in
    omega (arith, z.0, z.2, c.row_size_in.ensures.sized, c.loop-i-test.true)

pub infer_items-loop-i-preserved : goal.infer_items-loop-i-preserved
infer_items-loop-i-preserved t c =
    items_loop_on c.requires.room c.loop-i.invariant c.loop-i-test.true
    c.infer_into.new.shapes c.infer_into.result c.infer_into.ensures.inferred
    c.in_ok-grown.was c.row_size_in.ensures.sized c.infer_into.auto.shapes

pub infer_items-shape_of-shapes : goal.infer_items-shape_of-shapes
infer_items-shape_of-shapes t c =
    c.loop-i.invariant.same

pub infer_items-returns : goal.infer_items-returns
infer_items-returns t c =
    record { inferred = items_end c.loop-i.invariant c.loop-i-test.false }

pub infer_list-overflow_add-end : goal.infer_list-overflow_add-end
infer_list-overflow_add-end t c =
    let w = c.requires.inferable in
    omega (arith, value_size w.meets.held, value_within w.meets.held, c.row_size.ensures.sized)

pub infer_list-ready_element-requires : goal.infer_list-ready_element-requires
infer_list-ready_element-requires t c =
    let w = c.requires.inferable in
    record { shape_held = record { part = w.part; name = w.name; old = w.old; stands = w.meets.stands; within = w.meets.within }; room = c.requires.room }

pub infer_list-overflow_add-used : goal.infer_list-overflow_add-used
infer_list-overflow_add-used t c =
    omega (
      arith,
      (list_room_then c.requires.room c.requires.list c.ready_element.new.shapes
          c.ready_element.result c.ready_element.ensures.ready c.in_ok-opened.was
          c.requires.inferable).enough,
      (list_room_then c.requires.room c.requires.list c.ready_element.new.shapes
          c.ready_element.result c.ready_element.ensures.ready c.in_ok-opened.was
          c.requires.inferable).small,
    )

pub infer_list-overflow_add-row : goal.infer_list-overflow_add-row
infer_list-overflow_add-row t c =
    let w = c.requires.inferable in
    omega (arith, stands_row w.meets.stands, c.requires.room.small)

pub infer_list-overflow_add-at : goal.infer_list-overflow_add-at
infer_list-overflow_add-at t c =
    let w = c.requires.inferable in
    omega (arith, value_within w.meets.held, size_some w.value)

pub infer_list-infer_items-requires : goal.infer_list-infer_items-requires
infer_list-infer_items-requires t c =
    let w = c.requires.inferable in (
      omega (arith, c.decreases, value_within w.meets.held, size_some w.value),
      (
        list_inferable c.requires.room c.requires.list c.ready_element.new.shapes
            c.ready_element.result c.ready_element.ensures.ready c.in_ok-opened.was
            (ap (λ (x : ℕ). c.args.at + x) c.row_size.ensures.sized) w,
        list_room_then c.requires.room c.requires.list c.ready_element.new.shapes
            c.ready_element.result c.ready_element.ensures.ready c.in_ok-opened.was w,
      ),
    )

pub infer_list-overflow_add-opened : goal.infer_list-overflow_add-opened
infer_list-overflow_add-opened t c =
    omega (
      arith,
      list_grown c.requires.room c.requires.list c.ready_element.new.shapes c.ready_element.result
          c.ready_element.ensures.ready c.in_ok-opened.was
          (ap (λ (x : ℕ). c.args.at + x) c.row_size.ensures.sized) c.infer_items.new.shapes
          c.infer_items.result c.infer_items.ensures.inferred c.in_ok-words.was c.requires.inferable,
      c.requires.room.small,
    )

pub infer_list-raise-requires : goal.infer_list-raise-requires
infer_list-raise-requires t c =
    let facts = list_raise_fits c.requires.room c.requires.list c.ready_element.new.shapes c.ready_element.result
    c.ready_element.ensures.ready c.in_ok-opened.was
    (ap (λ (x : ℕ). c.args.at + x) c.row_size.ensures.sized) c.infer_items.new.shapes
    c.infer_items.result c.infer_items.ensures.inferred c.in_ok-words.was c.requires.inferable in record { row_in_bounds = facts.0; fits = facts.1 }

pub infer_list-overflow_add-result : goal.infer_list-overflow_add-result
infer_list-overflow_add-result t c =
    omega (
      arith,
      list_grown c.requires.room c.requires.list c.ready_element.new.shapes c.ready_element.result
          c.ready_element.ensures.ready c.in_ok-opened.was
          (ap (λ (x : ℕ). c.args.at + x) c.row_size.ensures.sized) c.infer_items.new.shapes
          c.infer_items.result c.infer_items.ensures.inferred c.in_ok-words.was c.requires.inferable,
      c.requires.room.small,
    )

pub infer_list-returns-in_err-opened : goal.infer_list-returns-in_err-opened
infer_list-returns-in_err-opened t c =
    record {
      inferred = rw c.from_residual.ensures (list_full_first c.requires.room c.requires.list c.ready_element.new.shapes c.ready_element.result
          c.ready_element.ensures.ready c.in_err-opened.was);
    }

pub infer_list-returns-in_err-words : goal.infer_list-returns-in_err-words
infer_list-returns-in_err-words t c =
    record {
      inferred = rw c.from_residual-in_err-words.ensures (list_full_then c.requires.room c.requires.list c.ready_element.new.shapes c.ready_element.result
          c.ready_element.ensures.ready c.in_ok-opened.was
          (ap (λ (x : ℕ). c.args.at + x) c.row_size.ensures.sized) c.infer_items.new.shapes
          c.infer_items.result c.infer_items.ensures.inferred c.in_err-words.was);
    }

pub infer_list-returns : goal.infer_list-returns
infer_list-returns t c =
    record {
      inferred = list_answer c.requires.room c.requires.list c.ready_element.new.shapes c.ready_element.result
          c.ready_element.ensures.ready c.in_ok-opened.was
          (ap (λ (x : ℕ). c.args.at + x) c.row_size.ensures.sized) c.infer_items.new.shapes
          c.infer_items.result c.infer_items.ensures.inferred c.in_ok-words.was
          c.raise.ensures.raised c.raise.auto.shapes;
    }

pub infer_member-overflow_add-name : goal.infer_member-overflow_add-name
infer_member-overflow_add-name t c =
    let w = c.requires.member_inferable in
    omega (arith, value_within w.meets.held, size_some w.value)

pub infer_member-offset_bounds-nodes-at : goal.infer_member-offset_bounds-nodes-at
infer_member-offset_bounds-nodes-at t c =
    let w = c.requires.member_inferable in
    omega (arith, value_within w.meets.held, size_some w.value)

pub infer_member-bounds-nodes-at : goal.infer_member-bounds-nodes-at
infer_member-bounds-nodes-at t c =
    let w = c.requires.member_inferable in
    omega (arith, value_within w.meets.held, size_some w.value)

pub infer_member-find_listed-requires : goal.infer_member-find_listed-requires
infer_member-find_listed-requires t c =
    let w = c.requires.member_inferable in
    record { part = w.part; fields = w.olds; meets = w.meets.fields }

pub infer_member-infer_leaf-requires : goal.infer_member-infer_leaf-requires
infer_member-infer_leaf-requires t c =
    record {
      inferable = listed_inferable c.args.had c.requires.room c.find_listed.result c.find_listed.ensures.found
          c.in-Some.is c.requires.member_inferable;
      room = c.requires.room;
      leaf = omega (arith, c.row_kind.ensures.read, c.if-row_kind-lt-LIST.true);
    }

pub infer_member-shape_of-shapes-then-row_kind-lt-LIST : goal.infer_member-shape_of-shapes-then-row_kind-lt-LIST
infer_member-shape_of-shapes-then-row_kind-lt-LIST t c =
    c.infer_leaf.auto.shapes

pub infer_member-returns-then-row_kind-lt-LIST : goal.infer_member-returns-then-row_kind-lt-LIST
infer_member-returns-then-row_kind-lt-LIST t c =
    record {
      inferred = listed_answer c.args.had c.requires.room c.find_listed.result c.find_listed.ensures.found
          c.in-Some.is c.infer_leaf.new.shapes c.infer_leaf.result c.infer_leaf.ensures.inferred;
    }

pub infer_member-infer_into-requires : goal.infer_member-infer_into-requires
infer_member-infer_into-requires t c = (
  omega (arith, c.decreases),
  (
    listed_inferable c.args.had c.requires.room c.find_listed.result c.find_listed.ensures.found
        c.in-Some.is c.requires.member_inferable,
    c.requires.room,
  ),
)

pub infer_member-shape_of-shapes-in-Some : goal.infer_member-shape_of-shapes-in-Some
infer_member-shape_of-shapes-in-Some t c =
    c.infer_into.auto.shapes

pub infer_member-returns-in-Some : goal.infer_member-returns-in-Some
infer_member-returns-in-Some t c =
    record {
      inferred = listed_answer c.args.had c.requires.room c.find_listed.result c.find_listed.ensures.found
          c.in-Some.is c.infer_into.new.shapes c.infer_into.result c.infer_into.ensures.inferred;
    }

pub infer_member-find_place-requires : goal.infer_member-find_place-requires
infer_member-find_place-requires t c =
    let w = c.requires.member_inferable in
    record { fields_held = record { part = w.part; fields = w.olds; meets = w.meets.fields }; room = c.requires.room }

pub infer_member-unreachable-requires : goal.infer_member-unreachable-requires
infer_member-unreachable-requires t c =
    never_placed c.args.had c.requires.room c.find_listed.result c.find_listed.ensures.found
    c.in_default.is c.requires.member_inferable c.in_default-find_place.ensures.found

pub infer_member-open_row-requires : goal.infer_member-open_row-requires
infer_member-open_row-requires t c =
    record {
      room = c.requires.room;
      inside = new_inside c.args.had c.requires.room c.find_listed.result c.find_listed.ensures.found
          c.in_default.is c.in-Err.ensures.found c.requires.member_inferable;
      small = omega (arith, c.start_kinds.ensures.told, kind_bits_lt (member_start c.args.had));
    }

pub infer_member-overflow_add-used : goal.infer_member-overflow_add-used
infer_member-overflow_add-used t c =
    let r = new_room_then c.args.had c.requires.room c.find_listed.result c.find_listed.ensures.found
    c.in_default.is c.in-Err.ensures.found c.open_row.new.shapes
    c.open_row.result c.start_kinds.ensures.told c.open_row.ensures.opened
    c.in_ok-opened.was c.requires.member_inferable in
    omega (arith, r.enough, r.small)

pub infer_member-infer_into-requires-2 : goal.infer_member-infer_into-requires-2
infer_member-infer_into-requires-2 t c = (
  omega (arith, c.decreases),
  (
    new_inferable c.args.had c.requires.room c.find_listed.result c.find_listed.ensures.found
        c.in_default.is c.in-Err.ensures.found c.open_row.new.shapes
        c.open_row.result
        c.start_kinds.ensures.told c.open_row.ensures.opened c.in_ok-opened.was c.requires.member_inferable,
    new_room_then c.args.had c.requires.room c.find_listed.result c.find_listed.ensures.found
        c.in_default.is c.in-Err.ensures.found c.open_row.new.shapes
        c.open_row.result
        c.start_kinds.ensures.told c.open_row.ensures.opened c.in_ok-opened.was c.requires.member_inferable,
  ),
)

pub infer_member-overflow_add-result : goal.infer_member-overflow_add-result
infer_member-overflow_add-result t c =
    let g = new_grown c.args.had c.requires.room c.find_listed.result c.find_listed.ensures.found
    c.in_default.is c.in-Err.ensures.found c.open_row.new.shapes
    c.open_row.result c.start_kinds.ensures.told c.open_row.ensures.opened
    c.in_ok-opened.was c.infer_into-2.new.shapes c.infer_into-2.result
    c.infer_into-2.ensures.inferred c.in_ok-words.was c.requires.member_inferable in
    omega (arith, g, c.requires.room.small)

pub infer_member-returns-in_err-opened : goal.infer_member-returns-in_err-opened
infer_member-returns-in_err-opened t c =
    record {
      inferred = rw c.from_residual.ensures (new_full_first c.args.had c.requires.room c.find_listed.result c.find_listed.ensures.found
          c.in_default.is c.in-Err.ensures.found c.open_row.new.shapes
          c.open_row.result c.start_kinds.ensures.told c.open_row.ensures.opened c.in_err-opened.was);
    }

pub infer_member-returns-in_err-words : goal.infer_member-returns-in_err-words
infer_member-returns-in_err-words t c =
    record {
      inferred = rw c.from_residual-in_err-words.ensures (new_full_then c.args.had c.requires.room c.find_listed.result c.find_listed.ensures.found
          c.in_default.is c.in-Err.ensures.found c.open_row.new.shapes
          c.open_row.result c.start_kinds.ensures.told c.open_row.ensures.opened
          c.in_ok-opened.was c.infer_into-2.new.shapes c.infer_into-2.result
          c.infer_into-2.ensures.inferred c.in_err-words.was);
    }

pub infer_member-returns : goal.infer_member-returns
infer_member-returns t c =
    record {
      inferred = new_answer c.args.had c.requires.room c.find_listed.result c.find_listed.ensures.found
          c.in_default.is c.in-Err.ensures.found c.open_row.new.shapes
          c.open_row.result c.start_kinds.ensures.told c.open_row.ensures.opened
          c.in_ok-opened.was c.infer_into-2.new.shapes c.infer_into-2.result
          c.infer_into-2.ensures.inferred c.in_ok-words.was;
    }

pub infer_members-loop-i-init : goal.infer_members-loop-i-init
infer_members-loop-i-init t c =
    members_begin _ _ _ _ _ _ _ _ _ c.requires.room.enough

pub infer_members-overflow_add-used : goal.infer_members-overflow_add-used
infer_members-overflow_add-used t c =
    omega (
      arith,
      members_room c.requires.room c.loop-i.invariant c.loop-i-test.true c.requires.members_inferable.meets,
      c.requires.room.small,
    )

pub infer_members-overflow_add-last : goal.infer_members-overflow_add-last
infer_members-overflow_add-last t c =
    omega (
      arith,
      members_room c.requires.room c.loop-i.invariant c.loop-i-test.true c.requires.members_inferable.meets,
      c.requires.members_inferable.meets.fields.within,
      c.requires.room.small,
    )

pub infer_members-infer_member-requires : goal.infer_members-infer_member-requires
infer_members-infer_member-requires t c =
    let room = c.requires.room in
    let w = c.requires.members_inferable in
    let l = c.loop-i.invariant in
    let z = members_size room l c.loop-i-test.true w.meets in (
      omega (arith, c.decreases, l.ahead, z.0, z.1),
      (
        members_inferable room l c.loop-i-test.true w,
        record {
          enough = omega (arith, members_room room l c.loop-i-test.true w.meets, l.same);
          small = omega (arith, room.small, l.same);
        },
      ),
    )

pub infer_members-returns-in_err-grown : goal.infer_members-returns-in_err-grown
infer_members-returns-in_err-grown t c =
    record {
      inferred = rw c.from_residual.ensures (members_full c.requires.room c.loop-i.invariant c.loop-i-test.true
          c.infer_member.new.shapes c.infer_member.result c.infer_member.ensures.inferred
          c.in_err-grown.was);
    }

pub infer_members-overflow_add-grown : goal.infer_members-overflow_add-grown
infer_members-overflow_add-grown t c =
    omega (
      arith,
      members_grown c.requires.room c.loop-i.invariant c.loop-i-test.true
          c.infer_member.new.shapes c.infer_member.result c.infer_member.ensures.inferred
          c.in_ok-grown.was c.requires.members_inferable,
      c.requires.room.small,
    )

pub infer_members-row_size_in-requires : goal.infer_members-row_size_in-requires
infer_members-row_size_in-requires t c =
    members_row c.requires.room c.loop-i.invariant c.loop-i-test.true c.requires.members_inferable.meets

pub infer_members-overflow_add-i : goal.infer_members-overflow_add-i
infer_members-overflow_add-i t c =
    let z = members_size c.requires.room c.loop-i.invariant c.loop-i-test.true c.requires.members_inferable.meets in
    omega (arith, z.1, c.row_size_in.ensures.sized)

pub infer_members-loop-i-smaller : goal.infer_members-loop-i-smaller
infer_members-loop-i-smaller t c =
    let z = members_size c.requires.room c.loop-i.invariant c.loop-i-test.true c.requires.members_inferable.meets in
    omega (arith, z.0, z.2, c.row_size_in.ensures.sized, c.loop-i-test.true)

pub infer_members-loop-i-preserved : goal.infer_members-loop-i-preserved
infer_members-loop-i-preserved t c =
    members_loop_on c.requires.room c.loop-i.invariant c.loop-i-test.true
    c.infer_member.new.shapes c.infer_member.result c.infer_member.ensures.inferred
    c.in_ok-grown.was c.row_size_in.ensures.sized c.infer_member.auto.shapes

pub infer_members-shape_of-shapes : goal.infer_members-shape_of-shapes
infer_members-shape_of-shapes t c =
    c.loop-i.invariant.same

pub infer_members-returns : goal.infer_members-returns
infer_members-returns t c =
    record { inferred = members_end c.loop-i.invariant c.loop-i-test.false }

pub infer_record-overflow_add-end : goal.infer_record-overflow_add-end
infer_record-overflow_add-end t c =
    let w = c.requires.inferable in
    omega (arith, value_size w.meets.held, value_within w.meets.held, c.row_size.ensures.sized)

pub infer_record-members-first-requires : goal.infer_record-members-first-requires
infer_record-members-first-requires t c =
    let w = c.requires.inferable in
    let facts = record_first w.meets.stands w.meets.within c.requires.room in record { row_in_bounds = facts.0; within = facts.1 }

pub infer_record-overflow_add-last : goal.infer_record-overflow_add-last
infer_record-overflow_add-last t c =
    let w = c.requires.inferable in
    omega (arith, c.size.ensures.read, stands_size w.meets.stands, stands_within w.meets.stands, c.requires.room.small)

pub infer_record-overflow_add-at : goal.infer_record-overflow_add-at
infer_record-overflow_add-at t c =
    let w = c.requires.inferable in
    omega (arith, value_within w.meets.held, size_some w.value)

pub infer_record-infer_members-requires : goal.infer_record-infer_members-requires
infer_record-infer_members-requires t c =
    let w = c.requires.inferable in (
      omega (arith, c.decreases, value_within w.meets.held, size_some w.value),
      (
        record_inferable c.requires.room c.requires.record c.kinds.ensures.read c.has-had.ensures.told
            c.members-first.ensures.found (ap (λ (x : ℕ). c.args.row + x) c.size.ensures.read)
            (ap (λ (x : ℕ). c.args.at + x) c.row_size.ensures.sized) w,
        c.requires.room,
      ),
    )

pub infer_record-overflow_add-grown : goal.infer_record-overflow_add-grown
infer_record-overflow_add-grown t c =
    let g = record_grown c.requires.room c.requires.record c.kinds.ensures.read
    c.has-had.ensures.told c.members-first.ensures.found
    (ap (λ (x : ℕ). c.args.row + x) c.size.ensures.read)
    (ap (λ (x : ℕ). c.args.at + x) c.row_size.ensures.sized) c.infer_members.new.shapes
    c.infer_members.result c.infer_members.ensures.inferred c.in_ok-words.was c.requires.inferable in
    omega (arith, g.0, c.requires.room.small)

pub infer_record-overflow_add-last-2 : goal.infer_record-overflow_add-last-2
infer_record-overflow_add-last-2 t c =
    let g = record_grown c.requires.room c.requires.record c.kinds.ensures.read
    c.has-had.ensures.told c.members-first.ensures.found
    (ap (λ (x : ℕ). c.args.row + x) c.size.ensures.read)
    (ap (λ (x : ℕ). c.args.at + x) c.row_size.ensures.sized) c.infer_members.new.shapes
    c.infer_members.result c.infer_members.ensures.inferred c.in_ok-words.was c.requires.inferable in
    omega (arith, g.0, g.1, c.requires.room.small)

pub infer_record-overflow_add-at-2 : goal.infer_record-overflow_add-at-2
infer_record-overflow_add-at-2 t c =
    let w = c.requires.inferable in
    omega (arith, value_within w.meets.held, size_some w.value)

pub infer_record-null_others-requires : goal.infer_record-null_others-requires
infer_record-null_others-requires t c =
    record {
      nullable = record_nulls c.requires.room c.requires.record c.kinds.ensures.read c.has-had.ensures.told
          c.members-first.ensures.found (ap (λ (x : ℕ). c.args.row + x) c.size.ensures.read)
          (ap (λ (x : ℕ). c.args.at + x) c.row_size.ensures.sized) c.infer_members.new.shapes
          c.infer_members.result c.infer_members.ensures.inferred c.in_ok-words.was c.requires.inferable;
      room = record_room c.requires.room c.requires.record c.kinds.ensures.read c.has-had.ensures.told
          c.members-first.ensures.found (ap (λ (x : ℕ). c.args.row + x) c.size.ensures.read)
          (ap (λ (x : ℕ). c.args.at + x) c.row_size.ensures.sized) c.infer_members.new.shapes
          c.infer_members.result c.infer_members.ensures.inferred c.in_ok-words.was c.requires.inferable;
    }

pub infer_record-raise-requires : goal.infer_record-raise-requires
infer_record-raise-requires t c =
    let facts = record_raise_fits c.requires.room c.requires.record c.kinds.ensures.read
    c.has-had.ensures.told c.members-first.ensures.found
    (ap (λ (x : ℕ). c.args.row + x) c.size.ensures.read)
    (ap (λ (x : ℕ). c.args.at + x) c.row_size.ensures.sized) c.infer_members.new.shapes
    c.infer_members.result c.infer_members.ensures.inferred c.in_ok-words.was
    c.null_others.new.shapes c.null_others.ensures.nulled c.requires.inferable in record { row_in_bounds = facts.0; fits = facts.1 }

pub infer_record-returns-in_err-words : goal.infer_record-returns-in_err-words
infer_record-returns-in_err-words t c =
    record {
      inferred = rw c.from_residual.ensures (record_full c.requires.room c.requires.record c.kinds.ensures.read
          c.has-had.ensures.told c.members-first.ensures.found
          (ap (λ (x : ℕ). c.args.row + x) c.size.ensures.read)
          (ap (λ (x : ℕ). c.args.at + x) c.row_size.ensures.sized) c.infer_members.new.shapes
          c.infer_members.result c.infer_members.ensures.inferred c.in_err-words.was);
    }

pub infer_record-returns : goal.infer_record-returns
infer_record-returns t c =
    record {
      inferred = record_answer c.requires.room c.requires.record c.kinds.ensures.read
          c.has-had.ensures.told c.members-first.ensures.found
          (ap (λ (x : ℕ). c.args.row + x) c.size.ensures.read)
          (ap (λ (x : ℕ). c.args.at + x) c.row_size.ensures.sized) c.infer_members.new.shapes
          c.infer_members.result c.infer_members.ensures.inferred c.in_ok-words.was
          c.null_others.new.shapes c.null_others.ensures.nulled c.raise.ensures.raised c.raise.auto.shapes;
    }
