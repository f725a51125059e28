-- `growing::open_row` meets its contract. Assumes nothing.
use mathlib.Core.List.{[], ◌∷◌}
use native.Mathlib.Omega.{arith}
use mathlib.Core.Path.{refl}
use borrow.Author.Rules.{rules}
use Rattle.shapes.specs.Shapes.{head_of}
use Rattle.join.specs.ReplacingLaws.{gap_filled}
use Rattle.growing.proofs.open_row.Goals as goal

pub returns : goal.returns
returns c =
    record {
      opened = let s = c.args in
          let rows = head_of s.kinds.kinds 2 ∷ s.name ∷ [] in
          record {
            rows = rows;
            encoded = refl;
            replaced = gap_filled
                s.shapes.now
                c.open_gap.new.part
                c.put_row.new.shapes
                s.used
                s.row
                2
                rows
                c.requires.inside
                (omega (arith, c.if-shapes-used-lt2.false, c.requires.room.enough))
                c.open_gap.ensures.opened
                refl
                c.put_row.ensures.put
                (search rules);
          };
    }
