pub mod Infer
pub mod InferLaws
pub mod InferForms
pub mod Inferring
