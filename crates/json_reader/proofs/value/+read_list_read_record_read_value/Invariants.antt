-- The measures and invariants of the cycle of calls. Assumes nothing.
use Prim.Native.Nat.{◌+◌, ◌*◌}
use Rattle.json_reader.specs.declared.parts.Bracket.TheVariants.{Square, Curly}
use Rattle.json_reader.specs.JsonParts.{Turns}
use Rattle.json_reader.proofs.Loops.{to_read}
use Rattle.json_reader.proofs.value.+read_list_read_record_read_value.Given as goal

abbrev pub decreases-read_list : goal.decreases-read_list
decreases-read_list l = 2 * l.room.left + 1

abbrev pub decreases-read_record : goal.decreases-read_record
decreases-read_record l = 2 * l.room.left + 1

abbrev pub decreases-read_value : goal.decreases-read_value
decreases-read_value l = 2 * l.room.left

abbrev pub invariant-read_list-loop-turn : goal.invariant-read_list-loop-turn
invariant-read_list-loop-turn l = Turns Square 0 l.room.left l.room.values l.doc l.fn.nodes l.fn.pool l.nodes l.pool l.name l.c l.turn

abbrev pub decreases-read_list-loop-turn : goal.decreases-read_list-loop-turn
decreases-read_list-loop-turn l = to_read l.doc l.turn

abbrev pub invariant-read_record-loop-turn : goal.invariant-read_record-loop-turn
invariant-read_record-loop-turn l = Turns Curly l.seen l.room.left l.room.values l.doc l.fn.nodes l.fn.pool l.nodes l.pool l.name l.c l.turn

abbrev pub decreases-read_record-loop-turn : goal.decreases-read_record-loop-turn
decreases-read_record-loop-turn l = to_read l.doc l.turn
