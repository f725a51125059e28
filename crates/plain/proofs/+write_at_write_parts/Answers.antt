-- The proof of the cycle of calls {write_at, write_parts}. Each call goes on at a later row or, from `write_parts` to `write_at`, at the same one:
-- the measures are what is left of the table from the row on, and one more for `write_parts`. The loop's invariant is `Loop`. Assumes nothing.
use Prim.Native.Nat.{◌*◌, ◌<◌}
use native.Mathlib.Omega.{arith}
use mathlib.Core.Path.{◌≡◌, ◌∙◌}
use mathlib.Core.Bool.{true, false}
use lib.ListN.{length, length-set}
use Rattle.definitions.specs.Value.{size}
use Rattle.plain.proofs.Rows.{stands_size, stands_within}
use Rattle.plain.proofs.Singles.{kind_told}
use Rattle.plain.proofs.Wholes.{Encloses, kind_record, list_encloses, rec_encloses, length_enclosed, writes_enclosed}
use Rattle.plain.proofs.Parts.{gone}
use Rattle.plain.proofs.Loop.{loop_begins, turn, label_writable, value_writable, turn_within, turn_some, loop_on}
use Rattle.nodes.specs.StandingLaws.{size_some}
use Rattle.plain.proofs.+write_at_write_parts.Goals as goal

pub write_at-write_single-requires : goal.write_at-write_single-requires
write_at-write_single-requires t c =
    record { writable = c.requires; single = omega (arith, c.if-kind-lt-LIST.true, c.row_kind-kind.ensures.read) }

pub write_at-shape_of-out-then-kind-lt-LIST : goal.write_at-shape_of-out-then-kind-lt-LIST
write_at-shape_of-out-then-kind-lt-LIST t c =
    c.write_single.auto.out

pub write_at-returns-then-kind-lt-LIST : goal.write_at-returns-then-kind-lt-LIST
write_at-returns-then-kind-lt-LIST t c =
    record { written = c.write_single.ensures.written }

pub write_at-overflow_add-end : goal.write_at-overflow_add-end
write_at-overflow_add-end t c =
    let w = c.requires in
    omega (arith, stands_within w.holds.stands, stands_size w.holds.stands, c.row_size.ensures.sized)

pub write_at-bounds-out-at : goal.write_at-bounds-out-at
write_at-bounds-out-at t c =
    let list_at : Encloses c.args.nodes.now c.args.pool.now c.args.row c.row_size.result false 91 93 c.requires.value = let w = c.requires in
    list_encloses w.value w.holds (c.row_size.ensures.sized ∙ stands_size w.holds.stands)
    (kind_told w.holds c.row_kind-kind.ensures.read c.if-kind-eq-LIST.true) in
    omega (arith, c.requires.room, length_enclosed list_at)

pub write_at-overflow_add-at : goal.write_at-overflow_add-at
write_at-overflow_add-at t c =
    let list_at : Encloses c.args.nodes.now c.args.pool.now c.args.row c.row_size.result false 91 93 c.requires.value = let w = c.requires in
    list_encloses w.value w.holds (c.row_size.ensures.sized ∙ stands_size w.holds.stands)
    (kind_told w.holds c.row_kind-kind.ensures.read c.if-kind-eq-LIST.true) in
    omega (arith, c.requires.room, length_enclosed list_at)

pub write_at-overflow_add-row : goal.write_at-overflow_add-row
write_at-overflow_add-row t c =
    omega (arith, stands_within c.requires.holds.stands, size_some c.requires.value)

pub write_at-write_parts-j-requires : goal.write_at-write_parts-j-requires
write_at-write_parts-j-requires t c =
    let list_at : Encloses c.args.nodes.now c.args.pool.now c.args.row c.row_size.result false 91 93 c.requires.value = let w = c.requires in
    list_encloses w.value w.holds (c.row_size.ensures.sized ∙ stands_size w.holds.stands)
    (kind_told w.holds c.row_kind-kind.ensures.read c.if-kind-eq-LIST.true) in
    let w = list_at in (
      omega (arith, c.decreases, stands_within c.requires.holds.stands, size_some c.requires.value),
      record {
        parts = w.parts;
        holds = w.holds;
        room = simp length-set (omega (arith, c.requires.room, length_enclosed list_at));
      },
    )

pub write_at-bounds-out-j : goal.write_at-bounds-out-j
write_at-bounds-out-j t c =
    let list_at : Encloses c.args.nodes.now c.args.pool.now c.args.row c.row_size.result false 91 93 c.requires.value = let w = c.requires in
    list_encloses w.value w.holds (c.row_size.ensures.sized ∙ stands_size w.holds.stands)
    (kind_told w.holds c.row_kind-kind.ensures.read c.if-kind-eq-LIST.true) in
    let list_end : c.write_parts-j.result < length c.write_parts-j.new.out = let w = list_at in
    omega (
      arith,
      c.requires.room,
      length_enclosed w,
      (c.write_parts-j.ensures.written w.parts w.holds).end,
      c.write_parts-j.auto.out,
      length-set c.args.out.now c.args.at 91,
    ) in
    list_end

pub write_at-overflow_add-result : goal.write_at-overflow_add-result
write_at-overflow_add-result t c =
    let list_at : Encloses c.args.nodes.now c.args.pool.now c.args.row c.row_size.result false 91 93 c.requires.value = let w = c.requires in
    list_encloses w.value w.holds (c.row_size.ensures.sized ∙ stands_size w.holds.stands)
    (kind_told w.holds c.row_kind-kind.ensures.read c.if-kind-eq-LIST.true) in
    let list_end : c.write_parts-j.result < length c.write_parts-j.new.out = let w = list_at in
    omega (
      arith,
      c.requires.room,
      length_enclosed w,
      (c.write_parts-j.ensures.written w.parts w.holds).end,
      c.write_parts-j.auto.out,
      length-set c.args.out.now c.args.at 91,
    ) in
    omega (arith, list_end, c.write_parts-j.auto.out, length-set c.args.out.now c.args.at 91)

pub write_at-shape_of-out-then-kind-eq-LIST : goal.write_at-shape_of-out-then-kind-eq-LIST
write_at-shape_of-out-then-kind-eq-LIST t c =
    simp length-set (c.write_parts-j.auto.out ∙ length-set c.args.out.now c.args.at 91)

pub write_at-returns-then-kind-eq-LIST : goal.write_at-returns-then-kind-eq-LIST
write_at-returns-then-kind-eq-LIST t c =
    let list_at : Encloses c.args.nodes.now c.args.pool.now c.args.row c.row_size.result false 91 93 c.requires.value = let w = c.requires in
    list_encloses w.value w.holds (c.row_size.ensures.sized ∙ stands_size w.holds.stands)
    (kind_told w.holds c.row_kind-kind.ensures.read c.if-kind-eq-LIST.true) in
    let list_end : c.write_parts-j.result < length c.write_parts-j.new.out = let w = list_at in
    omega (
      arith,
      c.requires.room,
      length_enclosed w,
      (c.write_parts-j.ensures.written w.parts w.holds).end,
      c.write_parts-j.auto.out,
      length-set c.args.out.now c.args.at 91,
    ) in
    record {
      written = λ v h. let w = list_encloses v h (c.row_size.ensures.sized ∙ stands_size h.stands)
          (kind_told h c.row_kind-kind.ensures.read c.if-kind-eq-LIST.true) in
          writes_enclosed w (omega (arith, c.requires.room, length_enclosed list_at)) (c.write_parts-j.ensures.written w.parts w.holds) list_end;
    }

pub write_at-bounds-out-at-2 : goal.write_at-bounds-out-at-2
write_at-bounds-out-at-2 t c =
    let rec_at : Encloses c.args.nodes.now c.args.pool.now c.args.row c.row_size.result true 123 125 c.requires.value = let w = c.requires in
    rec_encloses w.value w.holds (c.row_size.ensures.sized ∙ stands_size w.holds.stands)
    (kind_record w.holds c.row_kind-kind.ensures.read c.if-kind-lt-LIST.false c.if-kind-eq-LIST.false) in
    omega (arith, c.requires.room, length_enclosed rec_at)

pub write_at-overflow_add-at-2 : goal.write_at-overflow_add-at-2
write_at-overflow_add-at-2 t c =
    let rec_at : Encloses c.args.nodes.now c.args.pool.now c.args.row c.row_size.result true 123 125 c.requires.value = let w = c.requires in
    rec_encloses w.value w.holds (c.row_size.ensures.sized ∙ stands_size w.holds.stands)
    (kind_record w.holds c.row_kind-kind.ensures.read c.if-kind-lt-LIST.false c.if-kind-eq-LIST.false) in
    omega (arith, c.requires.room, length_enclosed rec_at)

pub write_at-overflow_add-row-2 : goal.write_at-overflow_add-row-2
write_at-overflow_add-row-2 t c =
    omega (arith, stands_within c.requires.holds.stands, size_some c.requires.value)

pub write_at-write_parts-j-requires-2 : goal.write_at-write_parts-j-requires-2
write_at-write_parts-j-requires-2 t c =
    let rec_at : Encloses c.args.nodes.now c.args.pool.now c.args.row c.row_size.result true 123 125 c.requires.value = let w = c.requires in
    rec_encloses w.value w.holds (c.row_size.ensures.sized ∙ stands_size w.holds.stands)
    (kind_record w.holds c.row_kind-kind.ensures.read c.if-kind-lt-LIST.false c.if-kind-eq-LIST.false) in
    let w = rec_at in (
      omega (arith, c.decreases, stands_within c.requires.holds.stands, size_some c.requires.value),
      record {
        parts = w.parts;
        holds = w.holds;
        room = simp length-set (omega (arith, c.requires.room, length_enclosed rec_at));
      },
    )

pub write_at-bounds-out-j-2 : goal.write_at-bounds-out-j-2
write_at-bounds-out-j-2 t c =
    let rec_at : Encloses c.args.nodes.now c.args.pool.now c.args.row c.row_size.result true 123 125 c.requires.value = let w = c.requires in
    rec_encloses w.value w.holds (c.row_size.ensures.sized ∙ stands_size w.holds.stands)
    (kind_record w.holds c.row_kind-kind.ensures.read c.if-kind-lt-LIST.false c.if-kind-eq-LIST.false) in
    let rec_end : c.write_parts-j-2.result < length c.write_parts-j-2.new.out = let w = rec_at in
    omega (
      arith,
      c.requires.room,
      length_enclosed w,
      (c.write_parts-j-2.ensures.written w.parts w.holds).end,
      c.write_parts-j-2.auto.out,
      length-set c.args.out.now c.args.at 123,
    ) in
    rec_end

pub write_at-overflow_add-result-2 : goal.write_at-overflow_add-result-2
write_at-overflow_add-result-2 t c =
    let rec_at : Encloses c.args.nodes.now c.args.pool.now c.args.row c.row_size.result true 123 125 c.requires.value = let w = c.requires in
    rec_encloses w.value w.holds (c.row_size.ensures.sized ∙ stands_size w.holds.stands)
    (kind_record w.holds c.row_kind-kind.ensures.read c.if-kind-lt-LIST.false c.if-kind-eq-LIST.false) in
    let rec_end : c.write_parts-j-2.result < length c.write_parts-j-2.new.out = let w = rec_at in
    omega (
      arith,
      c.requires.room,
      length_enclosed w,
      (c.write_parts-j-2.ensures.written w.parts w.holds).end,
      c.write_parts-j-2.auto.out,
      length-set c.args.out.now c.args.at 123,
    ) in
    omega (arith, rec_end, c.write_parts-j-2.auto.out, length-set c.args.out.now c.args.at 123)

pub write_at-shape_of-out : goal.write_at-shape_of-out
write_at-shape_of-out t c =
    simp length-set (c.write_parts-j-2.auto.out ∙ length-set c.args.out.now c.args.at 123)

pub write_at-returns : goal.write_at-returns
write_at-returns t c =
    let rec_at : Encloses c.args.nodes.now c.args.pool.now c.args.row c.row_size.result true 123 125 c.requires.value = let w = c.requires in
    rec_encloses w.value w.holds (c.row_size.ensures.sized ∙ stands_size w.holds.stands)
    (kind_record w.holds c.row_kind-kind.ensures.read c.if-kind-lt-LIST.false c.if-kind-eq-LIST.false) in
    let rec_end : c.write_parts-j-2.result < length c.write_parts-j-2.new.out = let w = rec_at in
    omega (
      arith,
      c.requires.room,
      length_enclosed w,
      (c.write_parts-j-2.ensures.written w.parts w.holds).end,
      c.write_parts-j-2.auto.out,
      length-set c.args.out.now c.args.at 123,
    ) in
    record {
      written = λ v h. let k = kind_record h c.row_kind-kind.ensures.read c.if-kind-lt-LIST.false c.if-kind-eq-LIST.false in
          let w = rec_encloses v h (c.row_size.ensures.sized ∙ stands_size h.stands) k in
          writes_enclosed w (omega (arith, c.requires.room, length_enclosed rec_at)) (c.write_parts-j-2.ensures.written w.parts w.holds) rec_end;
    }

pub write_parts-loop-i-init : goal.write_parts-loop-i-init
write_parts-loop-i-init t c =
    loop_begins _ _ _ _ _ _ _

pub write_parts-write_label-j-requires : goal.write_parts-write_label-j-requires
write_parts-write_label-j-requires t c =
    label_writable c.requires c.loop-i.invariant c.loop-i-test.true

pub write_parts-write_at-j-requires : goal.write_parts-write_at-j-requires
write_parts-write_at-j-requires t c =
    let i = c.loop-i.invariant in
    let m = c.loop-i-test.true in (
      omega (arith, c.decreases, i.ahead, turn_within c.requires i m, turn_some c.requires i m),
      value_writable c.requires i m c.write_label-j.auto.out c.write_label-j.ensures.written,
    )

pub write_parts-row_size_in-i-requires : goal.write_parts-row_size_in-i-requires
write_parts-row_size_in-i-requires t c =
    let i = c.loop-i.invariant in
    let m = c.loop-i-test.true in
    omega (arith, turn_within c.requires i m, turn_some c.requires i m)

pub write_parts-overflow_add-i : goal.write_parts-overflow_add-i
write_parts-overflow_add-i t c =
    let step : c.row_size_in-i.result ≡ 3 * size (turn c.requires c.loop-i.invariant c.loop-i-test.true).value = let h =
    (turn c.requires c.loop-i.invariant c.loop-i-test.true).holds in c.row_size_in-i.ensures.sized ∙ stands_size h.stands in
    omega (arith, step, turn_within c.requires c.loop-i.invariant c.loop-i-test.true)

pub write_parts-loop-i-smaller : goal.write_parts-loop-i-smaller
write_parts-loop-i-smaller t c =
    let step : c.row_size_in-i.result ≡ 3 * size (turn c.requires c.loop-i.invariant c.loop-i-test.true).value = let h =
    (turn c.requires c.loop-i.invariant c.loop-i-test.true).holds in c.row_size_in-i.ensures.sized ∙ stands_size h.stands in
    omega (arith, step, turn_some c.requires c.loop-i.invariant c.loop-i-test.true, c.loop-i-test.true)

pub write_parts-loop-i-preserved : goal.write_parts-loop-i-preserved
write_parts-loop-i-preserved t c =
    loop_on c.requires c.loop-i.invariant c.loop-i-test.true c.write_label-j.auto.out
    c.write_at-j.auto.out
    c.write_label-j.ensures.written c.write_at-j.ensures.written c.row_size_in-i.ensures.sized

pub write_parts-shape_of-out : goal.write_parts-shape_of-out
write_parts-shape_of-out t c =
    c.loop-i.invariant.same

pub write_parts-returns : goal.write_parts-returns
write_parts-returns t c =
    record { written = λ ps h. gone (c.loop-i.invariant.going ps h) c.loop-i-test.false }
