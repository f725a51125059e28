pub mod Pool
pub mod PoolLaws
pub mod Lanes
pub mod LaneLaws
