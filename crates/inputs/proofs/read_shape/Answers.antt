-- `inputs::read_shape` meets its contract. Assumes nothing.
use Rattle.inputs.proofs.ShapeTexts.{judges_long, few_room, judges_read}
use Rattle.inputs.proofs.read_shape.Goals as goal

pub returns-then-limits-text : goal.returns-then-limits-text
returns-then-limits-text c =
    record {
      judged = let a = c.args in
          judges_long a.limits a.text.now a.pool.now a.shapes.now a.top c.if-limits-text.true;
    }

pub read_shape-requires : goal.read_shape-requires
read_shape-requires c =
    few_room c.fewer-few.ensures.made c.if-limits-text.false c.requires

pub returns : goal.returns
returns c = record { judged = judges_read c.fewer-few.ensures.made c.if-limits-text.false c.read_shape.ensures.read }
