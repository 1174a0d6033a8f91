pub mod Bits
pub mod Runs
