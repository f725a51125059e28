pub mod KindsIn
pub mod Lacking
pub mod Named
pub mod Wholes
