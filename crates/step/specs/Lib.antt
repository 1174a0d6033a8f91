pub mod Events
pub mod Steps
