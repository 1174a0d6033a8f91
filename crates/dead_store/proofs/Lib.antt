pub mod Places
pub mod Walking
pub mod Scanning
pub mod Sifting
