-- Lemmas of this crate's proofs.
pub mod Decimals
pub mod Replies
