pub mod JsonRead
pub mod JsonParts
