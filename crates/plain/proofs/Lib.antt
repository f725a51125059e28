pub mod Writing
pub mod Rows
pub mod Parts
pub mod Singles
pub mod Labels
pub mod Wholes
pub mod Loop
pub mod Delivery
