pub mod Grows
pub mod Floors
