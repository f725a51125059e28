pub mod TokenRead
pub mod WordValues
pub mod Expecting
pub mod ReadingLaws
pub mod Standing
pub mod StandingLaws
