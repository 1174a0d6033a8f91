pub mod Least
pub mod Lists
pub mod Walks
pub mod After
