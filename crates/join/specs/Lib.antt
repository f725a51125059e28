pub mod Replacing
pub mod ReplacingLaws
pub mod Merge
pub mod Joining
pub mod PartsLaws
