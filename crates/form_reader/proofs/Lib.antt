-- The laws that the functions' proofs cite.
pub mod WordTables
pub mod Steps
pub mod FormBrackets
pub mod Indexes
pub mod OperandReading
pub mod PoolGrowth
pub mod PlaceReading
pub mod HeadReading
pub mod LeadLaws
pub mod PartReading
pub mod ResultReading
pub mod TextReading
