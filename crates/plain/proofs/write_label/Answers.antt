-- `plain::write_label` meets its contract. Assumes nothing.
use Prim.Native.Nat.{◌<◌}
use native.Mathlib.Omega.{arith}
use mathlib.Core.Path.{refl, sym, ap, ◌∙◌}
use mathlib.Core.List.{◌++◌, append-nil}
use lib.ListN.{length, length-append, length-set}
use Rattle.definitions.specs.Bytes.{Bytes}
use Rattle.plain.specs.Parts.{comma, label}
use Rattle.plain.proofs.Writing.{writes_as}
use Rattle.plain.proofs.Labels.{label_named, label_none, length_label, WritesLabel}
use Rattle.plain.proofs.write_label.Goals as goal

pub write_comma-j-requires : goal.write_comma-j-requires
write_comma-j-requires c =
    omega (arith, c.requires.room, length-append (comma c.args.later) (label c.requires.name))

pub overflow_add-row : goal.overflow_add-row
overflow_add-row c =
    omega (arith, c.requires.holds.within)

pub offset_bounds-nodes-row : goal.offset_bounds-nodes-row
offset_bounds-nodes-row c =
    omega (arith, c.requires.holds.within)

pub bounds-nodes-row : goal.bounds-nodes-row
bounds-nodes-row c =
    c.requires.holds.within

pub write_reference-end-requires : goal.write_reference-end-requires
write_reference-end-requires c =
    let d = label_named c.requires.holds c.if-named.true refl in
    record {
      text = d.text;
      holds = d.holds;
      room =
          omega (arith, c.requires.room, length_label c.args.later d, c.write_comma-j.ensures.written.end, c.write_comma-j.auto.out);
    }

pub bounds-out-end : goal.bounds-out-end
bounds-out-end c = (let within : c.write_reference-end.result < length c.write_reference-end.new.out = let d =
    label_named c.requires.holds c.if-named.true refl in
    omega (
      arith,
      c.requires.room,
      length_label c.args.later d,
      c.write_comma-j.ensures.written.end,
      c.write_comma-j.auto.out,
      (c.write_reference-end.ensures.written d.text d.holds).end,
      c.write_reference-end.auto.out,
    ) in within)

pub overflow_add-result : goal.overflow_add-result
overflow_add-result c =
    omega (
      arith,
      (let within : c.write_reference-end.result < length c.write_reference-end.new.out = let d = label_named c.requires.holds c.if-named.true refl in
          omega (
            arith,
            c.requires.room,
            length_label c.args.later d,
            c.write_comma-j.ensures.written.end,
            c.write_comma-j.auto.out,
            (c.write_reference-end.ensures.written d.text d.holds).end,
            c.write_reference-end.auto.out,
          ) in within),
      c.write_reference-end.auto.out,
      c.write_comma-j.auto.out,
    )

pub shape_of-out-then-named : goal.shape_of-out-then-named
shape_of-out-then-named c =
    simp length-set (c.write_reference-end.auto.out ∙ c.write_comma-j.auto.out)

pub returns-then-named : goal.returns-then-named
returns-then-named c =
    record {
      written = λ n h. let d = label_named h c.if-named.true refl in
          WritesLabel c.args.later d (omega (arith, c.requires.room)) c.write_comma-j.ensures.written
          (c.write_reference-end.ensures.written d.text d.holds) (let within : c.write_reference-end.result < length c.write_reference-end.new.out = let d =
          label_named c.requires.holds c.if-named.true refl in
          omega (
            arith,
            c.requires.room,
            length_label c.args.later d,
            c.write_comma-j.ensures.written.end,
            c.write_comma-j.auto.out,
            (c.write_reference-end.ensures.written d.text d.holds).end,
            c.write_reference-end.auto.out,
          ) in within);
    }

pub returns : goal.returns
returns c =
    record {
      written = λ n h. writes_as
          (sym (append-nil (comma c.args.later)) ∙ ap (λ (s : Bytes). comma c.args.later ++ s) (label_none h c.if-named.false))
          c.write_comma-j.ensures.written;
    }
