pub mod ById
pub mod Alike
pub mod Premises
pub mod Examples
