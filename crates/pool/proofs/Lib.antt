pub mod Word
pub mod EightBytes
pub mod Store
pub mod ByteOrder
pub mod WordOrder
