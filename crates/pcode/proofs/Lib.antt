pub mod Ids
pub mod Cut
pub mod Names
