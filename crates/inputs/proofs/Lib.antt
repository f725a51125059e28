pub mod Mapped
pub mod FewForms
pub mod FewShapes
pub mod FewReaders
pub mod ShapeTexts
pub mod Pairs
pub mod ReaderTexts
