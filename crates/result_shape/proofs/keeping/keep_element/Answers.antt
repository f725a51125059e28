-- `result_shape::keeping::keep_element` meets its contract. Assumes nothing.
use Rattle.result_shape.proofs.KeepSteps.{elements_none, elements_some, joinable}
use Rattle.std.proofs.Common.{ap, not}
use Rattle.result_shape.proofs.keeping.keep_element.Goals as goal

pub returns-then-not-has : goal.returns-then-not-has
returns-then-not-has c = record { kept = λ p t name s j. elements_none j c.requires.tables c.has.ensures.told (ap not c.if-not-has.true) }

pub join_element-requires : goal.join_element-requires
join_element-requires c =
    joinable c.requires.kept_asked c.requires.tables

pub returns : goal.returns
returns c =
    record {
      kept = λ p t name s j. elements_some j c.requires.tables c.join_element.new.shapes c.join_element.result
          c.has.ensures.told (ap not c.if-not-has.false) c.join_element.ensures.joined;
    }
