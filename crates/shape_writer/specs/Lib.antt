pub mod Layout
pub mod Writing
pub mod WritingLaws
pub mod WritingSample
