-- The proof of the cycle of calls {form_length, inner_length, members_length}. Each call goes on at a later row or, from `members_length`
-- to `inner_length` and from there to `form_length`, at the same one: the measures are twice what is left of the table from the row on, and
-- one or two more for those two. The loop's invariant is `Counting`. Assumes nothing.
use Prim.Native.Nat.{ℕ, ◌+◌}
use native.Mathlib.Omega.{arith}
use mathlib.Core.Path.{refl, sym, ap, ◌∙◌}
use lib.ListN.{length}
use Rattle.shapes.specs.Shapes.{has_bit}
use Rattle.shapes.specs.ShapesLaws.{forms_some}
use Rattle.shapes.specs.HeldLaws.{held_kinds}
use Rattle.shape_writer.specs.Layout.{head_text}
use Rattle.shape_writer.proofs.Forms.{holds_size, holds_within, listed, unlisted, length_listed, length_unlisted, head_short}
use Rattle.shape_writer.proofs.Lines.{length_new_line}
use Rattle.shape_writer.proofs.Members.{first_some, first_within}
use Rattle.shape_writer.proofs.Lengths.{sum_listed, leaf_length, counting_begins, counted_all, counting_on, counted_turn}
use Rattle.shape_writer.proofs.Lengths.{label_measurable, inner_below, form_measurable, label_below, turn_below}
use Rattle.shape_writer.proofs.+form_length_inner_length_members_length.Goals as goal

pub form_length-overflow_add-first : goal.form_length-overflow_add-first
form_length-overflow_add-first t c =
    omega (arith, holds_within c.requires.holds, forms_some c.requires.shape)

pub form_length-overflow_add-end : goal.form_length-overflow_add-end
form_length-overflow_add-end t c =
    omega (arith, holds_within c.requires.holds, holds_size c.requires.holds, c.size.ensures.read)

pub form_length-overflow_add-inner : goal.form_length-overflow_add-inner
form_length-overflow_add-inner t c =
    omega (arith, c.requires.deep)

pub form_length-overflow_add-next : goal.form_length-overflow_add-next
form_length-overflow_add-next t c =
    let l = listed c.args.around c.requires.holds
    (ap (λ (k : ℕ). has_bit k 32) (sym c.kinds-kinds.ensures.read) ∙ sym c.has.ensures.told ∙ c.if-has.true) in
    omega (arith, holds_within l.holds, holds_size l.holds, c.size-then-has.ensures.read)

pub form_length-form_length-element-requires : goal.form_length-form_length-element-requires
form_length-form_length-element-requires t c =
    let l = listed c.args.around c.requires.holds
    (ap (λ (k : ℕ). has_bit k 32) (sym c.kinds-kinds.ensures.read) ∙ sym c.has.ensures.told ∙ c.if-has.true) in (
      omega (arith, c.decreases, holds_within l.holds, forms_some l.element),
      record {
        shape = l.element;
        holds = l.holds;
        room = omega (arith, c.requires.room, length_listed l);
        deep =
            omega (
              arith,
              c.requires.room,
              length_listed l,
              length_new_line (c.args.around + 1),
              head_short l.element (c.args.around + 1),
            );
      },
    )

pub form_length-overflow_add-result : goal.form_length-overflow_add-result
form_length-overflow_add-result t c =
    let l = listed c.args.around c.requires.holds
    (ap (λ (k : ℕ). has_bit k 32) (sym c.kinds-kinds.ensures.read) ∙ sym c.has.ensures.told ∙ c.if-has.true) in
    omega (
      arith,
      c.requires.room,
      sum_listed l
          (c.head_length-head.ensures.measured ∙ ap (λ (k : ℕ). length (head_text k)) (c.kinds-kinds.ensures.read ∙ held_kinds c.requires.holds))
          (c.form_length-element.ensures.measured l.element l.holds) refl,
    )

pub form_length-overflow_add-result-then-has : goal.form_length-overflow_add-result-then-has
form_length-overflow_add-result-then-has t c =
    let l = listed c.args.around c.requires.holds
    (ap (λ (k : ℕ). has_bit k 32) (sym c.kinds-kinds.ensures.read) ∙ sym c.has.ensures.told ∙ c.if-has.true) in
    omega (
      arith,
      c.requires.room,
      sum_listed l
          (c.head_length-head.ensures.measured ∙ ap (λ (k : ℕ). length (head_text k)) (c.kinds-kinds.ensures.read ∙ held_kinds c.requires.holds))
          (c.form_length-element.ensures.measured l.element l.holds) refl,
    )

pub form_length-overflow_add-result-then-has-2 : goal.form_length-overflow_add-result-then-has-2
form_length-overflow_add-result-then-has-2 t c =
    let l = listed c.args.around c.requires.holds
    (ap (λ (k : ℕ). has_bit k 32) (sym c.kinds-kinds.ensures.read) ∙ sym c.has.ensures.told ∙ c.if-has.true) in
    omega (
      arith,
      c.requires.room,
      sum_listed l
          (c.head_length-head.ensures.measured ∙ ap (λ (k : ℕ). length (head_text k)) (c.kinds-kinds.ensures.read ∙ held_kinds c.requires.holds))
          (c.form_length-element.ensures.measured l.element l.holds) refl,
    )

pub form_length-members_length-requires : goal.form_length-members_length-requires
form_length-members_length-requires t c =
    let l = listed c.args.around c.requires.holds
    (ap (λ (k : ℕ). has_bit k 32) (sym c.kinds-kinds.ensures.read) ∙ sym c.has.ensures.told
    ∙ c.if-has.true) in (
      omega (arith, c.decreases, holds_within l.holds, holds_size l.holds, c.size-then-has.ensures.read, forms_some l.element),
      record {
        fields = l.fields;
        holds = rw (c.size.ensures.read, c.size-then-has.ensures.read) l.members;
        room = omega (arith, c.requires.room, length_listed l);
      },
    )

pub form_length-overflow_add-result-then-has-3 : goal.form_length-overflow_add-result-then-has-3
form_length-overflow_add-result-then-has-3 t c =
    let l = listed c.args.around c.requires.holds
    (ap (λ (k : ℕ). has_bit k 32) (sym c.kinds-kinds.ensures.read) ∙ sym c.has.ensures.told ∙ c.if-has.true) in
    omega (
      arith,
      c.requires.room,
      sum_listed l
          (c.head_length-head.ensures.measured ∙ ap (λ (k : ℕ). length (head_text k)) (c.kinds-kinds.ensures.read ∙ held_kinds c.requires.holds))
          (c.form_length-element.ensures.measured l.element l.holds)
          (c.members_length.ensures.measured l.fields (rw (c.size.ensures.read, c.size-then-has.ensures.read) l.members)),
    )

pub form_length-returns-then-has : goal.form_length-returns-then-has
form_length-returns-then-has t c =
    record {
      measured = λ s h. let l = listed c.args.around h
          (ap (λ (k : ℕ). has_bit k 32) (sym c.kinds-kinds.ensures.read) ∙ sym c.has.ensures.told ∙ c.if-has.true) in
          sum_listed l (c.head_length-head.ensures.measured ∙ ap (λ (k : ℕ). length (head_text k)) (c.kinds-kinds.ensures.read ∙ held_kinds h))
          (c.form_length-element.ensures.measured l.element l.holds)
          (c.members_length.ensures.measured l.fields (rw (c.size.ensures.read, c.size-then-has.ensures.read) l.members));
    }

pub form_length-members_length-requires-2 : goal.form_length-members_length-requires-2
form_length-members_length-requires-2 t c =
    let l = unlisted c.args.around c.requires.holds
    (ap (λ (k : ℕ). has_bit k 32) (sym c.kinds-kinds.ensures.read) ∙ sym c.has.ensures.told ∙ c.if-has.false) in (
      omega (arith, c.decreases, holds_within c.requires.holds, forms_some c.requires.shape),
      record {
        fields = l.fields;
        holds = rw c.size.ensures.read l.members;
        room = omega (arith, c.requires.room, length_unlisted l);
      },
    )

pub form_length-overflow_add-result-2 : goal.form_length-overflow_add-result-2
form_length-overflow_add-result-2 t c =
    let l = unlisted c.args.around c.requires.holds
    (ap (λ (k : ℕ). has_bit k 32) (sym c.kinds-kinds.ensures.read) ∙ sym c.has.ensures.told ∙ c.if-has.false) in
    omega (
      arith,
      c.requires.room,
      length_unlisted l,
      (c.head_length-head.ensures.measured
          ∙ ap (λ (k : ℕ). length (head_text k)) (c.kinds-kinds.ensures.read ∙ held_kinds c.requires.holds)),
      (c.members_length-2.ensures.measured l.fields (rw c.size.ensures.read l.members)),
    )

pub form_length-returns : goal.form_length-returns
form_length-returns t c =
    record {
      measured = λ s h. let l = unlisted c.args.around h
          (ap (λ (k : ℕ). has_bit k 32) (sym c.kinds-kinds.ensures.read) ∙ sym c.has.ensures.told ∙ c.if-has.false) in
          omega (
            arith,
            length_unlisted l,
            (c.head_length-head.ensures.measured ∙ ap (λ (k : ℕ). length (head_text k)) (c.kinds-kinds.ensures.read ∙ held_kinds h)),
            (c.members_length-2.ensures.measured l.fields (rw c.size.ensures.read l.members)),
          );
    }

pub inner_length-overflow_add-result : goal.inner_length-overflow_add-result
inner_length-overflow_add-result t c =
    omega (
      arith,
      c.requires.room,
      leaf_length c.args.around c.requires.holds c.size.ensures.read c.if-size-eq2.true
          c.kinds.ensures.read c.head_length.ensures.measured,
    )

pub inner_length-returns-then-size-eq2 : goal.inner_length-returns-then-size-eq2
inner_length-returns-then-size-eq2 t c =
    record {
      measured = λ s h. leaf_length c.args.around h c.size.ensures.read c.if-size-eq2.true c.kinds.ensures.read
          c.head_length.ensures.measured;
    }

pub inner_length-form_length-requires : goal.inner_length-form_length-requires
inner_length-form_length-requires t c =
    (omega (arith, c.decreases), c.requires)

pub inner_length-returns : goal.inner_length-returns
inner_length-returns t c =
    record { measured = c.form_length.ensures.measured }

pub members_length-loop-i-init : goal.members_length-loop-i-init
members_length-loop-i-init t c =
    counting_begins _ _ _ _ _

pub members_length-label_length-length-requires : goal.members_length-label_length-length-requires
members_length-label_length-length-requires t c =
    label_measurable c.loop-i.invariant c.loop-i-test.true c.requires (omega (arith, c.name.ensures.read))

pub members_length-overflow_add-length : goal.members_length-overflow_add-length
members_length-overflow_add-length t c =
    omega (
      arith,
      label_below c.loop-i.invariant c.loop-i-test.true c.requires c.name.ensures.read
          c.label_length-length.ensures.measured,
    )

pub members_length-overflow_add-around : goal.members_length-overflow_add-around
members_length-overflow_add-around t c =
    omega (arith, inner_below c.loop-i.invariant c.loop-i-test.true c.requires)

pub members_length-inner_length-requires : goal.members_length-inner_length-requires
members_length-inner_length-requires t c = (
  omega (
    arith,
    c.decreases,
    c.loop-i.invariant.ahead,
    first_within (counted_turn c.loop-i.invariant c.loop-i-test.true c.requires),
    first_some (counted_turn c.loop-i.invariant c.loop-i-test.true c.requires),
  ),
  form_measurable c.loop-i.invariant c.loop-i-test.true c.requires,
)

pub members_length-overflow_add-length-in-loop-i : goal.members_length-overflow_add-length-in-loop-i
members_length-overflow_add-length-in-loop-i t c =
    omega (
      arith,
      turn_below c.loop-i.invariant c.loop-i-test.true c.requires
          c.name.ensures.read c.label_length-length.ensures.measured c.inner_length.ensures.measured,
    )

pub members_length-overflow_add-length-in-loop-i-2 : goal.members_length-overflow_add-length-in-loop-i-2
members_length-overflow_add-length-in-loop-i-2 t c =
    omega (
      arith,
      turn_below c.loop-i.invariant c.loop-i-test.true c.requires
          c.name.ensures.read c.label_length-length.ensures.measured c.inner_length.ensures.measured,
    )

pub members_length-overflow_add-i : goal.members_length-overflow_add-i
members_length-overflow_add-i t c =
    omega (
      arith,
      c.size-i.ensures.read,
      first_within (counted_turn c.loop-i.invariant c.loop-i-test.true c.requires),
    )

pub members_length-loop-i-smaller : goal.members_length-loop-i-smaller
members_length-loop-i-smaller t c =
    omega (
      arith,
      c.size-i.ensures.read,
      first_some (counted_turn c.loop-i.invariant c.loop-i-test.true c.requires),
      c.loop-i-test.true,
    )

pub members_length-loop-i-preserved : goal.members_length-loop-i-preserved
members_length-loop-i-preserved t c =
    counting_on c.loop-i.invariant c.loop-i-test.true c.name.ensures.read c.label_length-length.ensures.measured
    c.inner_length.ensures.measured c.size-i.ensures.read

pub members_length-returns : goal.members_length-returns
members_length-returns t c =
    record { measured = counted_all c.loop-i.invariant c.loop-i-test.false }
