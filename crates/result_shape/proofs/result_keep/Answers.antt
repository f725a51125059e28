-- `result_shape::result_keep` meets its contract. Assumes nothing.
use native.Mathlib.Omega.{arith}
use Rattle.result_shape.proofs.Places.{keep_asks, keep_never, kept_asked, kept_Gives, asked_within}
use Rattle.result_shape.proofs.result_keep.Goals as goal

pub overflow_add-row : goal.overflow_add-row
overflow_add-row c =
    omega (arith, asked_within c.requires.result_asked)

pub locate-requires : goal.locate-requires
locate-requires c =
    keep_asks c.requires.tables c.requires.code c.requires.result_asked

pub unreachable-requires : goal.unreachable-requires
unreachable-requires c =
    keep_never c.requires.tables c.requires.code c.locate.result c.locate.ensures.found c.requires.result_asked.meets c.in_default.is

pub keep-requires : goal.keep-requires
keep-requires c =
    record {
      kept_asked = kept_asked c.requires.tables c.requires.code c.locate.result c.locate.ensures.found
          c.in-Ok.is c.requires.result_asked;
      tables = c.requires.tables;
    }

pub returns : goal.returns
returns c =
    record {
      given = kept_Gives c.requires.tables c.requires.code c.locate.result c.locate.ensures.found
          c.in-Ok.is c.keep.new.res c.keep.result
          c.keep.ensures.kept;
    }
