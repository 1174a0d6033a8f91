pub mod Values
pub mod Class
