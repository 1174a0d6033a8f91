pub mod Statements
pub mod Labels
pub mod Checks
