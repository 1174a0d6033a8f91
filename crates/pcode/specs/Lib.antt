pub mod Var
pub mod Rules
pub mod Names
pub mod Block
pub mod Refusals
