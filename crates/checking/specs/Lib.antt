pub mod KindSets
pub mod Bindings
pub mod BindingsLaws
pub mod WantsLaws
pub mod CheckContracts
