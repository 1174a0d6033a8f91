pub mod Turn
pub mod Simple
pub mod Widen
