-- What reads back and what stays good: the theorems of this family in one place. Assumes nothing.

-- "for every shape: its written text, if short enough, reads back as the same shape"
pub use Rattle.laws.proofs.ShapeRound.{shape_reads_back}
pub use Rattle.laws.proofs.RoundShapes.{shape_idempotent}
-- a good value reads back from its plain text, which is no longer than a document that it was read from
pub use Rattle.laws.proofs.JsonRound.{plain_derives, plain_reads_back, plain_not_longer, plain_idempotent}
pub use Rattle.laws.proofs.RoundDerives.{value_derives}
-- what is read is good
pub use Rattle.laws.proofs.RoundShapeRead.{shape_read_good}
pub use Rattle.laws.proofs.JsonRound.{json_read_good}
pub use Rattle.laws.proofs.RoundReaderRead.{reader_read_good}
-- what is made of good things is good
pub use Rattle.laws.specs.RoundGood.{nothing_good, join_good, shape_of_good}
pub use Rattle.laws.proofs.RoundReader.{check_good}
pub use Rattle.laws.proofs.RoundRun.{run_good}
