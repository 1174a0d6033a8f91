pub mod Known
pub mod Map
pub mod State
