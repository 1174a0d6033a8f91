pub mod Held
pub mod Sizes
pub mod Eval
pub mod Name
pub mod Operand
pub mod Cases
