pub mod Tiers
pub mod Trying
