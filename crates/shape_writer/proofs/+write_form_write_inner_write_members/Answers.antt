-- The proof of the cycle of calls {write_form, write_inner, write_members}. Each call goes on at a later row or, from `write_members` to
-- `write_inner` and from there to `write_form`, at the same one: the measures are twice what is left of the table from the row on, and one
-- or two more for those two. The loop's invariant is `Loop`. Assumes nothing.
use Prim.Native.Nat.{ℕ, ◌+◌}
use native.Mathlib.Omega.{arith}
use mathlib.Core.Path.{refl, sym, ap, ◌∙◌}
use lib.ListN.{length}
use Rattle.definitions.specs.Bytes.{bytes}
use Rattle.text.specs.WritesLaws.{writes_then, writes_as}
use Rattle.shapes.specs.Shapes.{has_bit}
use Rattle.shapes.specs.ShapesLaws.{forms_some}
use Rattle.shapes.specs.HeldLaws.{held_kinds}
use Rattle.shape_writer.specs.Layout.{head_text}
use Rattle.shape_writer.proofs.Lines.{length_new_line}
use Rattle.shape_writer.proofs.Forms.{holds_size, holds_within, listed, unlisted, leaf_text, length_listed, length_unlisted, head_short}
use Rattle.shape_writer.proofs.Members.{loop_begins, close_room, written_All, inner_room, label_printable, form_printable}
use Rattle.shape_writer.proofs.Members.{bracket_room, loop_on, turn, first_some, first_within}
use Rattle.shape_writer.proofs.Lengths.{leaf_length}
use Rattle.shape_writer.proofs.+write_form_write_inner_write_members.Goals as goal

pub write_form-overflow_add-first : goal.write_form-overflow_add-first
write_form-overflow_add-first t c =
    omega (arith, holds_within c.requires.holds, forms_some c.requires.shape)

pub write_form-overflow_add-end : goal.write_form-overflow_add-end
write_form-overflow_add-end t c =
    omega (arith, holds_within c.requires.holds, holds_size c.requires.holds, c.size.ensures.read)

pub write_form-overflow_add-inner : goal.write_form-overflow_add-inner
write_form-overflow_add-inner t c =
    omega (arith, c.requires.deep)

pub write_form-write_head-j-requires : goal.write_form-write_head-j-requires
write_form-write_head-j-requires t c =
    omega (
      arith,
      c.requires.room,
      head_short c.requires.shape c.args.around,
      ap (λ (k : ℕ). length (head_text k)) (c.kinds-kinds.ensures.read ∙ held_kinds c.requires.holds),
    )

pub write_form-overflow_add-next : goal.write_form-overflow_add-next
write_form-overflow_add-next t c =
    let l = listed c.args.around c.requires.holds
    (ap (λ (k : ℕ). has_bit k 32) (sym c.kinds-kinds.ensures.read) ∙ sym c.has.ensures.told ∙ c.if-has.true) in
    omega (arith, holds_within l.holds, holds_size l.holds, c.size-then-has.ensures.read)

pub write_form-write_line-k-requires : goal.write_form-write_line-k-requires
write_form-write_line-k-requires t c =
    let l = listed c.args.around c.requires.holds
    (ap (λ (k : ℕ). has_bit k 32) (sym c.kinds-kinds.ensures.read) ∙ sym c.has.ensures.told ∙ c.if-has.true) in
    omega (
      arith,
      c.requires.room,
      length_listed l,
      ap (λ (k : ℕ). length (head_text k)) (c.kinds-kinds.ensures.read ∙ held_kinds c.requires.holds),
      c.write_head-j.ensures.written.end,
      c.write_head-j.auto.out,
    )

pub write_form-write_form-m-requires : goal.write_form-write_form-m-requires
write_form-write_form-m-requires t c =
    let l = listed c.args.around c.requires.holds
    (ap (λ (k : ℕ). has_bit k 32) (sym c.kinds-kinds.ensures.read) ∙ sym c.has.ensures.told
    ∙ c.if-has.true) in (
      omega (arith, c.decreases, holds_within l.holds, forms_some l.element),
      record {
        shape = l.element;
        holds = l.holds;
        room =
            omega (
              arith,
              c.requires.room,
              length_listed l,
              ap (λ (k : ℕ). length (head_text k)) (c.kinds-kinds.ensures.read ∙ held_kinds c.requires.holds),
              c.write_head-j.ensures.written.end,
              c.write_head-j.auto.out,
              c.write_line-k.ensures.written.end,
              c.write_line-k.auto.out,
            );
        deep = omega (arith, c.requires.room, length_listed l, length_new_line (c.args.around + 1));
      },
    )

pub write_form-write_members-requires : goal.write_form-write_members-requires
write_form-write_members-requires t c =
    let l = listed c.args.around c.requires.holds
    (ap (λ (k : ℕ). has_bit k 32) (sym c.kinds-kinds.ensures.read) ∙ sym c.has.ensures.told
    ∙ c.if-has.true) in (
      omega (arith, c.decreases, holds_within l.holds, holds_size l.holds, c.size-then-has.ensures.read, forms_some l.element),
      record {
        fields = l.fields;
        holds = rw (c.size.ensures.read, c.size-then-has.ensures.read) l.members;
        room =
            omega (
              arith,
              c.requires.room,
              length_listed l,
              ap (λ (k : ℕ). length (head_text k)) (c.kinds-kinds.ensures.read ∙ held_kinds c.requires.holds),
              c.write_head-j.ensures.written.end,
              c.write_head-j.auto.out,
              c.write_line-k.ensures.written.end,
              c.write_line-k.auto.out,
              (c.write_form-m.ensures.written l.element l.holds).end,
              c.write_form-m.auto.out,
            );
      },
    )

pub write_form-returns-then-has : goal.write_form-returns-then-has
write_form-returns-then-has t c =
    record {
      written = λ s h. let l = listed c.args.around h
          (ap (λ (k : ℕ). has_bit k 32) (sym c.kinds-kinds.ensures.read) ∙ sym c.has.ensures.told
          ∙ c.if-has.true) in
          writes_as l.text
          (writes_then (omega (arith, c.requires.room))
          (writes_then (omega (arith, c.requires.room))
          (writes_then (omega (arith, c.requires.room))
          (writes_as (ap head_text (c.kinds-kinds.ensures.read ∙ held_kinds h)) c.write_head-j.ensures.written)
          c.write_line-k.ensures.written)
          (c.write_form-m.ensures.written l.element l.holds))
          (c.write_members.ensures.written l.fields (rw (c.size.ensures.read, c.size-then-has.ensures.read) l.members)));
    }

pub write_form-write_members-requires-2 : goal.write_form-write_members-requires-2
write_form-write_members-requires-2 t c =
    let l = unlisted c.args.around c.requires.holds
    (ap (λ (k : ℕ). has_bit k 32) (sym c.kinds-kinds.ensures.read) ∙ sym c.has.ensures.told ∙ c.if-has.false) in (
      omega (arith, c.decreases, holds_within c.requires.holds, forms_some c.requires.shape),
      record {
        fields = l.fields;
        holds = rw c.size.ensures.read l.members;
        room =
            omega (
              arith,
              c.requires.room,
              length_unlisted l,
              ap (λ (k : ℕ). length (head_text k)) (c.kinds-kinds.ensures.read ∙ held_kinds c.requires.holds),
              c.write_head-j.ensures.written.end,
              c.write_head-j.auto.out,
            );
      },
    )

pub write_form-returns : goal.write_form-returns
write_form-returns t c =
    record {
      written = λ s h. let l = unlisted c.args.around h
          (ap (λ (k : ℕ). has_bit k 32) (sym c.kinds-kinds.ensures.read) ∙ sym c.has.ensures.told ∙ c.if-has.false) in
          writes_as l.text
          (writes_then (omega (arith, c.requires.room))
          (writes_as (ap head_text (c.kinds-kinds.ensures.read ∙ held_kinds h)) c.write_head-j.ensures.written)
          (c.write_members-2.ensures.written l.fields (rw c.size.ensures.read l.members)));
    }

pub write_inner-write_head-j-requires : goal.write_inner-write_head-j-requires
write_inner-write_head-j-requires t c =
    omega (
      arith,
      c.requires.room,
      leaf_length c.args.around c.requires.holds c.size.ensures.read c.if-size-eq2.true
          c.kinds.ensures.read refl,
    )

pub write_inner-write_bytes-requires : goal.write_inner-write_bytes-requires
write_inner-write_bytes-requires t c =
    omega (
      arith,
      c.requires.room,
      leaf_length c.args.around c.requires.holds c.size.ensures.read c.if-size-eq2.true
          c.kinds.ensures.read refl,
      c.write_head-j.ensures.written.end,
      c.write_head-j.auto.out,
    )

pub write_inner-returns-then-size-eq2 : goal.write_inner-returns-then-size-eq2
unfolding bytes
write_inner-returns-then-size-eq2 t c =
    record {
      written = λ s h. writes_as (leaf_text c.args.around h (sym c.size.ensures.read ∙ c.if-size-eq2.true))
          (writes_then (omega (arith, c.requires.room))
          (writes_as (ap head_text c.kinds.ensures.read) c.write_head-j.ensures.written) c.write_bytes.ensures.written);
    }

pub write_inner-write_form-requires : goal.write_inner-write_form-requires
write_inner-write_form-requires t c =
    (omega (arith, c.decreases), c.requires)

pub write_inner-returns : goal.write_inner-returns
write_inner-returns t c =
    record { written = c.write_form.ensures.written }

pub write_members-loop-i-init : goal.write_members-loop-i-init
write_members-loop-i-init t c =
    loop_begins _ _ _ _ _ _ _

pub write_members-write_label-j-requires : goal.write_members-write_label-j-requires
write_members-write_label-j-requires t c =
    label_printable c.requires c.loop-i.invariant c.loop-i-test.true (omega (arith, c.name.ensures.read))

pub write_members-overflow_add-around : goal.write_members-overflow_add-around
write_members-overflow_add-around t c =
    omega (arith, inner_room c.requires c.loop-i.invariant c.loop-i-test.true)

pub write_members-write_inner-j-requires : goal.write_members-write_inner-j-requires
write_members-write_inner-j-requires t c = (
  omega (
    arith,
    c.decreases,
    c.loop-i.invariant.ahead,
    first_within (turn c.requires c.loop-i.invariant c.loop-i-test.true),
    first_some (turn c.requires c.loop-i.invariant c.loop-i-test.true),
  ),
  form_printable c.requires c.loop-i.invariant c.loop-i-test.true c.name.ensures.read
      c.write_label-j.ensures.written c.write_label-j.auto.out (omega (arith)),
)

pub write_members-write_bytes-j-requires : goal.write_members-write_bytes-j-requires
write_members-write_bytes-j-requires t c =
    bracket_room c.requires c.loop-i.invariant c.loop-i-test.true
    c.name.ensures.read c.write_label-j.ensures.written c.write_label-j.auto.out
    c.write_inner-j.ensures.written c.write_inner-j.auto.out

pub write_members-overflow_add-i : goal.write_members-overflow_add-i
write_members-overflow_add-i t c =
    omega (arith, c.size-i.ensures.read, first_within (turn c.requires c.loop-i.invariant c.loop-i-test.true))

pub write_members-loop-i-smaller : goal.write_members-loop-i-smaller
write_members-loop-i-smaller t c =
    omega (arith, c.size-i.ensures.read, first_some (turn c.requires c.loop-i.invariant c.loop-i-test.true), c.loop-i-test.true)

pub write_members-loop-i-preserved : goal.write_members-loop-i-preserved
write_members-loop-i-preserved t c =
    loop_on c.requires c.loop-i.invariant c.loop-i-test.true c.name.ensures.read
    c.write_label-j.ensures.written c.write_label-j.auto.out c.write_inner-j.ensures.written
    c.write_inner-j.auto.out c.write_bytes-j.ensures.written c.write_bytes-j.auto.out c.size-i.ensures.read

pub write_members-write_bytes-requires : goal.write_members-write_bytes-requires
write_members-write_bytes-requires t c =
    close_room c.requires c.loop-i.invariant

pub write_members-shape_of-out : goal.write_members-shape_of-out
write_members-shape_of-out t c =
    c.write_bytes.auto.out ∙ c.loop-i.invariant.same

pub write_members-returns : goal.write_members-returns
write_members-returns t c =
    record { written = written_All c.requires c.loop-i.invariant c.loop-i-test.false c.write_bytes.ensures.written }
