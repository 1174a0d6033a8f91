pub mod Bytes
pub mod Ready
pub mod Going
pub mod Ended
pub mod Unique
