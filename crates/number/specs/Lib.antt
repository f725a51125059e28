-- The definitions and laws of this crate.
pub mod NumberRun
pub mod NumberRead
pub mod NumberWrite
pub mod NumberCode
pub mod NumberLaws
pub mod DecimalLaws
pub mod NumberWord
pub mod NumberGroups
