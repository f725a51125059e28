pub mod Table
pub mod TableLaws
pub mod Parts
pub mod PlainLaws
pub mod HeadLaws
pub mod TableSample
pub mod GoodBounded
