pub mod Names
pub mod Operands
pub mod Records
