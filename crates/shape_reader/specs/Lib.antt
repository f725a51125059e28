pub mod ShapeParts
pub mod Leaves
pub mod ShapeReads
