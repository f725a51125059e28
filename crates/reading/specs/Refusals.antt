-- The numbers of the causes of refusals, and what a refusal says of what a text comes to. Assumes nothing.
use Rattle.std.specs.Prelude.{ℕ}
use Rattle.definitions.specs.Outcome.{Outcome, refused}
use Rattle.reading.specs.declared.Cause.{Cause}
use Rattle.reading.specs.declared.Cause.TheVariants as cause
use Rattle.reading.specs.declared.Refusal.{Refusal}

abbrev pub number_of : Cause → ℕ
number_of cause.TooShort = 1
number_of cause.TextTooLong = 2
number_of cause.JsonSyntax = 3
number_of cause.NumberLimit = 4
number_of cause.DuplicateName = 5
number_of cause.ValueLimit = 6
number_of cause.FormSyntax = 7
number_of cause.FormLimit = 8
number_of cause.UnwantedKind = 9
number_of cause.UnlistedName = 10
number_of cause.ShapeLimit = 11
number_of cause.Stuck = 12
number_of cause.StepLimit = 13
number_of cause.ResultLimit = 14
number_of cause.OutputTooShort = 15
number_of cause.LimitOutOfRange = 18

-- what a text comes to that is refused so
abbrev pub refused_as : {A : Type 0} → Refusal → Outcome ℕ A
refused_as r = refused (number_of r.cause) r.place
