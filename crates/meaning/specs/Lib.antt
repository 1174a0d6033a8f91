pub mod Meaning
pub mod Examples
