pub mod Treated
pub mod Files
pub mod Holding
pub mod Observed
pub mod Worked
