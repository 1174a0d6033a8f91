pub mod Codes
pub mod Parts
pub mod Entries
pub mod Entered
pub mod Looks
pub mod Keeps
