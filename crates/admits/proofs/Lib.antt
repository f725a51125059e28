pub mod KindBits
pub mod Elements
pub mod Named
pub mod Lacking
pub mod Wholes
pub mod Counting
