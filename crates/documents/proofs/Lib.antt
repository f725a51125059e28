pub mod FewValues
pub mod Reading
