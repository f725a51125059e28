pub mod Samples
pub mod MoreSamples
pub mod RuleSamples
