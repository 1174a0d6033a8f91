pub mod Parts
pub mod Decimals
