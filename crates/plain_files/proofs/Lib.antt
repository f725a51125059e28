-- Lemmas of this crate's proofs.
pub mod Printing
pub mod Judging
