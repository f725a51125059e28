pub mod Nodes
pub mod NodesLaws
pub mod Standing
pub mod StandingLaws
pub mod RowLaws
