-- The proof of the cycle of calls {read_list, read_record, read_value}. The nesting left falls: a value's measure is twice what is
-- left, a list's or record's, whose parts have one less, lies between. A loop's invariant says what has been read of the list or
-- record since it was opened: `Turns`. Assumes nothing.
use Prim.Native.Nat.{ℕ, ◌<◌}
use mathlib.Core.Path.{sym, ap, ◌∙◌, subst}
use native.Mathlib.Omega.{arith}
use Rattle.std.proofs.Common.{ControlFlow}
use Rattle.json_reader.specs.declared.parts.Bracket.TheVariants.{Square, Curly}
use Rattle.json_reader.specs.declared.parts.Part.{Part}
use Rattle.json_reader.specs.JsonParts.{opening_of}
use Rattle.json_reader.proofs.Answers.{as_word}
use Rattle.json_reader.proofs.Loops.{to_read, reads_less, a_part, the_answer, row_placed, part_ready, element_refused, element_read, behind_ready}
use Rattle.json_reader.proofs.Loops.{name_ready, name_refused, value_ready, member_refused, member_read, total_small}
use Rattle.json_reader.proofs.Values.{bracket_full, bracket_ready, bracket_value, scalar_byte, scalar_ready, scalar_value}
use Rattle.json_reader.proofs.value.+read_list_read_record_read_value.Goals as goal

pub read_list-first_part-turn-requires : goal.read_list-first_part-turn-requires
read_list-first_part-turn-requires t c =
    row_placed c.requires.0.placed c.requires.1

pub read_list-loop-turn-init : goal.read_list-loop-turn-init
read_list-loop-turn-init t c =
    c.first_part-turn.ensures.entered 0 c.args.room.left c.args.room.values c.args.pool.now c.requires.0.placed c.requires.1

pub read_list-read_value-r-requires : goal.read_list-read_value-r-requires
read_list-read_value-r-requires t c =
    let here = a_part c.loop-turn.invariant c.in-Continue.is in
    (omega (arith, c.decreases), part_ready Square c.args.c c.in-Continue.part.from c.requires.0 here)

pub read_list-returns-in_default : goal.read_list-returns-in_default
read_list-returns-in_default t c =
    let here = a_part c.loop-turn.invariant c.in-Continue.is in
    record { read = element_refused c.requires.0 here (sym c.opened.ensures.told ∙ c.in_default.is) c.read_value-r.ensures.read }

pub read_list-overflow_mul-part : goal.read_list-overflow_mul-part
read_list-overflow_mul-part t c =
    let here = a_part c.loop-turn.invariant c.in-Continue.is in
    omega (arith, here.moves.limit, c.requires.0.placed.few)

pub read_list-overflow_add-total : goal.read_list-overflow_add-total
read_list-overflow_add-total t c =
    let here = a_part c.loop-turn.invariant c.in-Continue.is in
    let read = as_word c.in-Ok.ensures.told c.read_value-r.ensures.read in
    let behind = element_read c.requires.0 here read c.row_written-length.ensures.read in
    let small = total_small Square c.args.c c.in-Ok.to c.requires.0 behind in
    omega (arith, small)

pub read_list-overflow_add-total-in-Continue : goal.read_list-overflow_add-total-in-Continue
read_list-overflow_add-total-in-Continue t c =
    let here = a_part c.loop-turn.invariant c.in-Continue.is in
    let read = as_word c.in-Ok.ensures.told c.read_value-r.ensures.read in
    let behind = element_read c.requires.0 here read c.row_written-length.ensures.read in
    let small = total_small Square c.args.c c.in-Ok.to c.requires.0 behind in
    omega (arith, small)

pub read_list-next_part-turn-requires : goal.read_list-next_part-turn-requires
read_list-next_part-turn-requires t c =
    let here = a_part c.loop-turn.invariant c.in-Continue.is in
    let read = as_word c.in-Ok.ensures.told c.read_value-r.ensures.read in
    let behind = element_read c.requires.0 here read c.row_written-length.ensures.read in
    behind_ready Square c.args.c c.in-Continue.part.from c.in-Ok.to c.requires.0 (omega (arith, here.counted)) read.answer behind

pub read_list-loop-turn-smaller : goal.read_list-loop-turn-smaller
read_list-loop-turn-smaller t c =
    let read = as_word c.in-Ok.ensures.told c.read_value-r.ensures.read in
    let m = read.answer.moves in
    subst (λ (u : ControlFlow ℕ Part). to_read c.args.doc.now c.next_part-turn.result < to_read c.args.doc.now u) (sym c.in-Continue.is)
    (reads_less c.args.doc.now c.in-Continue.part c.in-Ok.to c.next_part-turn.result m.ahead m.within c.next_part-turn.ensures.gone.ahead)

pub read_list-loop-turn-preserved : goal.read_list-loop-turn-preserved
read_list-loop-turn-preserved t c =
    let here = a_part c.loop-turn.invariant c.in-Continue.is in
    let read = as_word c.in-Ok.ensures.told c.read_value-r.ensures.read in
    let behind = element_read c.requires.0 here read c.row_written-length.ensures.read in
    c.next_part-turn.ensures.gone.answer 0 c.args.room.left c.args.room.values c.args.nodes.now c.args.pool.now c.read_value-r.new.pool behind

pub read_list-returns-in-Break : goal.read_list-returns-in-Break
read_list-returns-in-Break t c =
    record { read = the_answer c.loop-turn.invariant c.in-Break.is }

pub read_record-first_part-turn-requires : goal.read_record-first_part-turn-requires
read_record-first_part-turn-requires t c =
    row_placed c.requires.0.placed c.requires.1

pub read_record-loop-turn-init : goal.read_record-loop-turn-init
read_record-loop-turn-init t c =
    c.first_part-turn.ensures.entered 0 c.args.room.left c.args.room.values c.args.pool.now c.requires.0.placed c.requires.1

pub read_record-overflow_add-first : goal.read_record-overflow_add-first
read_record-overflow_add-first t c =
    omega (arith, c.requires.1)

pub read_record-read_name-requires : goal.read_record-read_name-requires
read_record-read_name-requires t c =
    let here = a_part c.loop-turn.invariant c.in-Continue.is in
    name_ready c.requires here

pub read_record-read_value-r-requires : goal.read_record-read_value-r-requires
read_record-read_value-r-requires t c =
    let here = a_part c.loop-turn.invariant c.in-Continue.is in
    let named = c.in-Ok.ensures.read in
    (omega (arith, c.decreases), value_ready c.requires here named)

pub read_record-returns-in_default : goal.read_record-returns-in_default
read_record-returns-in_default t c =
    let here = a_part c.loop-turn.invariant c.in-Continue.is in
    let named = c.in-Ok.ensures.read in
    record { read = member_refused c.requires here named (sym c.opened.ensures.told ∙ c.in_default.is) c.read_value-r.ensures.read }

pub read_record-overflow_mul-named : goal.read_record-overflow_mul-named
read_record-overflow_mul-named t c =
    let here = a_part c.loop-turn.invariant c.in-Continue.is in
    let named = c.in-Ok.ensures.read in
    let ready = (value_ready c.requires here named).placed in
    omega (arith, ready.limit, ready.few)

pub read_record-overflow_add-total : goal.read_record-overflow_add-total
read_record-overflow_add-total t c =
    let here = a_part c.loop-turn.invariant c.in-Continue.is in
    let named = c.in-Ok.ensures.read in
    let read = as_word c.in-Ok-opened.ensures.told c.read_value-r.ensures.read in
    let behind = member_read c.requires here named read c.row_written-length.ensures.read in
    let small = total_small Curly c.args.c c.in-Ok-opened.to c.requires.0 behind in
    omega (arith, small)

pub read_record-overflow_add-total-in-Ok : goal.read_record-overflow_add-total-in-Ok
read_record-overflow_add-total-in-Ok t c =
    let here = a_part c.loop-turn.invariant c.in-Continue.is in
    let named = c.in-Ok.ensures.read in
    let read = as_word c.in-Ok-opened.ensures.told c.read_value-r.ensures.read in
    let behind = member_read c.requires here named read c.row_written-length.ensures.read in
    let small = total_small Curly c.args.c c.in-Ok-opened.to c.requires.0 behind in
    omega (arith, small)

pub read_record-overflow_add-total-in-Ok-2 : goal.read_record-overflow_add-total-in-Ok-2
read_record-overflow_add-total-in-Ok-2 t c =
    let here = a_part c.loop-turn.invariant c.in-Continue.is in
    let named = c.in-Ok.ensures.read in
    let read = as_word c.in-Ok-opened.ensures.told c.read_value-r.ensures.read in
    let behind = member_read c.requires here named read c.row_written-length.ensures.read in
    let small = total_small Curly c.args.c c.in-Ok-opened.to c.requires.0 behind in
    omega (arith, small)

pub read_record-next_part-turn-requires : goal.read_record-next_part-turn-requires
read_record-next_part-turn-requires t c =
    let here = a_part c.loop-turn.invariant c.in-Continue.is in
    let named = c.in-Ok.ensures.read in
    let read = as_word c.in-Ok-opened.ensures.told c.read_value-r.ensures.read in
    let behind = member_read c.requires here named read c.row_written-length.ensures.read in
    behind_ready Curly c.args.c c.in-Ok.named.to c.in-Ok-opened.to c.requires.0 (omega (arith, here.counted, named.answer.moves.begun))
    read.answer behind

pub read_record-loop-turn-smaller : goal.read_record-loop-turn-smaller
read_record-loop-turn-smaller t c =
    let named = c.in-Ok.ensures.read in
    let read = as_word c.in-Ok-opened.ensures.told c.read_value-r.ensures.read in
    let m = read.answer.moves in
    subst (λ (u : ControlFlow ℕ Part). to_read c.args.doc.now c.next_part-turn.result < to_read c.args.doc.now u) (sym c.in-Continue.is)
    (reads_less c.args.doc.now c.in-Continue.part c.in-Ok-opened.to c.next_part-turn.result (omega (arith, m.ahead, named.answer.moves.ahead))
    m.within c.next_part-turn.ensures.gone.ahead)

pub read_record-loop-turn-preserved : goal.read_record-loop-turn-preserved
read_record-loop-turn-preserved t c =
    let here = a_part c.loop-turn.invariant c.in-Continue.is in
    let named = c.in-Ok.ensures.read in
    let read = as_word c.in-Ok-opened.ensures.told c.read_value-r.ensures.read in
    let behind = member_read c.requires here named read c.row_written-length.ensures.read in
    c.next_part-turn.ensures.gone.answer c.in-Ok.named.seen c.args.room.left c.args.room.values c.args.nodes.now c.args.pool.now
    c.read_value-r.new.pool behind

pub read_record-refused-requires : goal.read_record-refused-requires
read_record-refused-requires t c =
    let wrong = c.in-Err.ensures.read.answer in
    (wrong.caused, omega (arith, wrong.within, c.requires.0.placed.short))

pub read_record-returns-in-Err : goal.read_record-returns-in-Err
read_record-returns-in-Err t c =
    let here = a_part c.loop-turn.invariant c.in-Continue.is in
    record { read = as_word c.refused.ensures.packed (name_refused c.requires here c.in-Err.ensures.read) }

pub read_record-returns-in-Break : goal.read_record-returns-in-Break
read_record-returns-in-Break t c =
    record { read = the_answer c.loop-turn.invariant c.in-Break.is }

pub read_value-read_scalar-requires : goal.read_value-read_scalar-requires
read_value-read_scalar-requires t c = (
  scalar_ready c.args.c c.requires c.skip_white-at.ensures.skipped,
  scalar_byte c.args.c c.requires c.skip_white-at.ensures.skipped c.peek.ensures.read c.in_default.ensures.told,
)

pub read_value-returns-in_default : goal.read_value-returns-in_default
read_value-returns-in_default t c =
    record { read = scalar_value c.args.c c.requires c.skip_white-at.ensures.skipped c.read_scalar.ensures.read }

pub read_value-returns-then-is_full : goal.read_value-returns-then-is_full
read_value-returns-then-is_full t c =
    record {
      read = as_word c.refused.ensures.packed
          (bracket_full c.args.c c.requires c.skip_white-at.ensures.skipped c.in-Some.bracket
          (sym c.peek.ensures.read ∙ c.in-Some.ensures.told) c.if-is_full.ensures.judged);
    }

pub read_value-overflow_sub-inside : goal.read_value-overflow_sub-inside
read_value-overflow_sub-inside t c = let free = c.is_full.ensures.judged.within c.if-is_full.false in omega (arith, free.1)

pub read_value-read_list-requires : goal.read_value-read_list-requires
read_value-read_list-requires t c =
    let free = c.is_full.ensures.judged.within c.if-is_full.false in (
      omega (arith, c.decreases, free.1),
      (
        bracket_ready c.args.c c.requires c.skip_white-at.ensures.skipped c.in-Some.bracket
            (sym c.peek.ensures.read ∙ c.in-Some.ensures.told),
        free.0,
      ),
    )

pub read_value-read_record-requires : goal.read_value-read_record-requires
read_value-read_record-requires t c =
    let free = c.is_full.ensures.judged.within c.if-is_full.false in (
      omega (arith, c.decreases, free.1),
      (
        bracket_ready c.args.c c.requires c.skip_white-at.ensures.skipped c.in-Some.bracket
            (sym c.peek.ensures.read ∙ c.in-Some.ensures.told),
        free.0,
      ),
    )

pub read_value-returns-in-Square : goal.read_value-returns-in-Square
read_value-returns-in-Square t c =
    record {
      read = bracket_value c.args.c c.requires c.skip_white-at.ensures.skipped Square
          (sym c.peek.ensures.read ∙ c.in-Some.ensures.told ∙ ap opening_of c.in-Square.is)
          c.if-is_full.ensures.judged c.read_list.ensures.read;
    }

pub read_value-returns-in-Curly : goal.read_value-returns-in-Curly
read_value-returns-in-Curly t c =
    record {
      read = bracket_value c.args.c c.requires c.skip_white-at.ensures.skipped Curly
          (sym c.peek.ensures.read ∙ c.in-Some.ensures.told ∙ ap opening_of c.in-Curly.is)
          c.if-is_full.ensures.judged c.read_record.ensures.read;
    }

pub read_list-shape_of-nodes-in_default : goal.read_list-shape_of-nodes-in_default
read_list-shape_of-nodes-in_default t c =
    ((read_list-returns-in_default t c).read).nodes_kept

pub read_list-shape_of-pool-in_default : goal.read_list-shape_of-pool-in_default
read_list-shape_of-pool-in_default t c =
    ((read_list-returns-in_default t c).read).pool_kept

pub read_list-shape_of-nodes-in-Break : goal.read_list-shape_of-nodes-in-Break
read_list-shape_of-nodes-in-Break t c =
    ((read_list-returns-in-Break t c).read).nodes_kept

pub read_list-shape_of-pool-in-Break : goal.read_list-shape_of-pool-in-Break
read_list-shape_of-pool-in-Break t c =
    ((read_list-returns-in-Break t c).read).pool_kept

pub read_record-shape_of-nodes-in_default : goal.read_record-shape_of-nodes-in_default
read_record-shape_of-nodes-in_default t c =
    ((read_record-returns-in_default t c).read).nodes_kept

pub read_record-shape_of-pool-in_default : goal.read_record-shape_of-pool-in_default
read_record-shape_of-pool-in_default t c =
    ((read_record-returns-in_default t c).read).pool_kept

pub read_record-shape_of-nodes-in-Err : goal.read_record-shape_of-nodes-in-Err
read_record-shape_of-nodes-in-Err t c =
    ((read_record-returns-in-Err t c).read).nodes_kept

pub read_record-shape_of-pool-in-Err : goal.read_record-shape_of-pool-in-Err
read_record-shape_of-pool-in-Err t c =
    ((read_record-returns-in-Err t c).read).pool_kept

pub read_record-shape_of-nodes-in-Break : goal.read_record-shape_of-nodes-in-Break
read_record-shape_of-nodes-in-Break t c =
    ((read_record-returns-in-Break t c).read).nodes_kept

pub read_record-shape_of-pool-in-Break : goal.read_record-shape_of-pool-in-Break
read_record-shape_of-pool-in-Break t c =
    ((read_record-returns-in-Break t c).read).pool_kept
