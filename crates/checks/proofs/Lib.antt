pub mod Walks
pub mod Passing
pub mod Parts
