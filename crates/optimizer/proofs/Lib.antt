pub mod Accepted
pub mod Standing
pub mod Few
