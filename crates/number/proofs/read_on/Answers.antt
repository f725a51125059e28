-- `number::read_on` meets its contract. The loop's invariant is `Reading`: the run from `at` is the run from here.
-- Assumes nothing.
use Rattle.number.proofs.Reading.{begins, goes_on, stops, ends, takes}
use Rattle.number.proofs.read_on.Goals as goal

pub loop-i-init : goal.loop-i-init
loop-i-init c n s = begins c.requires s

pub extended-d-requires : goal.extended-d-requires
extended-d-requires c = takes _ _ c.in-Some.is c.step.ensures

pub loop-i-preserved : goal.loop-i-preserved
loop-i-preserved c n s =
    goes_on (c.loop-i.invariant n s) c.loop-i-test.true
    c.in-Some.is
    c.step.ensures
    c.extended-d.ensures

pub returns-in_default : goal.returns-in_default
returns-in_default c n s =
    stops (c.loop-i.invariant n s) c.loop-i-test.true
    c.in_default.is
    c.step.ensures
    c.answer.ensures

pub returns : goal.returns
returns c n s = ends (c.loop-i.invariant n s) c.loop-i-test.false c.answer-2.ensures
