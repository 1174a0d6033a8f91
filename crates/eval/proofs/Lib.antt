pub mod Laws
pub mod Products
pub mod Cases
pub mod Lengths
