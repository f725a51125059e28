pub mod Small
pub mod Fewer
pub mod Long
pub mod Prelude
