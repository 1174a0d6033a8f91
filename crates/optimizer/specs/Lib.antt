pub mod Second
pub mod First
pub mod Both
