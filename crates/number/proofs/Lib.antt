-- The laws that the functions' proofs cite.
pub mod Rows
pub mod Caps
pub mod Reading
pub mod DigitRuns
pub mod Counting
pub mod EightDigits
pub mod EightBytes
pub mod Quotients
pub mod DigitGroups
pub mod DigitValues
pub mod Parts
pub mod DigitLanes
pub mod Writing
pub mod WordNumbers
