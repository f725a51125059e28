pub mod Inputs
pub mod Refused
pub mod InputsLaws
