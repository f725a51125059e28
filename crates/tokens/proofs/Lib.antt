pub mod Borders
pub mod Lexing
pub mod Words
pub mod Expected
pub mod Eight
