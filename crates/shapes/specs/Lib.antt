pub mod Members
pub mod Shapes
pub mod ShapesLaws
pub mod Held
pub mod HeldLaws
pub mod AsMany
