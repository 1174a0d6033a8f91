pub mod Stays
pub mod Walks
