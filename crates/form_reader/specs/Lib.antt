-- The definitions of this crate.
pub mod FormWords
pub mod FormLeads
pub mod FormParts
pub mod FormReads
