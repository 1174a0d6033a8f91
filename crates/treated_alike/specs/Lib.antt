pub mod Demand
pub mod Seen
pub mod Examples
pub mod Worked
