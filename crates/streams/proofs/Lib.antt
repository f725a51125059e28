-- Lemmas for the programs' proofs.
pub mod Whole
pub mod Mapped
