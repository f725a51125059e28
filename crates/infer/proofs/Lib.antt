pub mod Scalars
pub mod Nulling
pub mod Into
pub mod Items
pub mod Lists
pub mod Members
pub mod Walk
pub mod Records
