-- `join::put_rows` meets its contract. Assumes nothing.
use Prim.Native.Nat.{◌+◌}
use mathlib.Core.Path.{refl, ◌∙◌}
use mathlib.Core.List.{append_assoc}
use native.Mathlib.Omega.{arith}
use lib.ListN.{take, drop, length-drop}
use lib.Seq.{length-take-le}
use borrow.Author.Rules.{rules}
use Rattle.join.specs.ReplacingLaws.{gap_filled}
use Rattle.join.proofs.put_rows.Goals as goal

pub shape_of-shapes : goal.shape_of-shapes
shape_of-shapes c = search rules

pub returns : goal.returns
returns c =
    record {
      put = let s = c.args in
          let w = c.requires in
          let rows = take s.count (drop s.from s.second.now) in
          record {
            rows = rows;
            encoded = refl;
            replaced = gap_filled
                s.shapes.now
                c.open_gap.new.part
                _
                s.used
                s.at
                s.count
                rows
                w.before
                (omega (arith, c.if-shapes-used.false, w.used_within))
                c.open_gap.ensures.opened
                (length-take-le s.count (drop s.from s.second.now) (omega (arith, length-drop s.from s.second.now, w.within)))
                (c.copy_rows.ensures.copied ∙ append_assoc (take s.at _) rows (drop (s.at + s.count) _))
                (shape_of-shapes c);
          };
    }
