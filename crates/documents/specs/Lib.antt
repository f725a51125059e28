pub mod Documents
pub mod DocumentsLaws
