pub mod Writes
pub mod Signs
pub mod Records
pub mod Unique
