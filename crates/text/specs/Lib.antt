pub mod TextRun
pub mod TextLaws
pub mod TextRead
pub mod TextParts
pub mod Writes
pub mod WritesLaws
pub mod Bare
