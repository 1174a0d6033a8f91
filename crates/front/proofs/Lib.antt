pub mod Doors
pub mod Bounds
