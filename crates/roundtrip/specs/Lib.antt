pub mod Fits
pub mod Files
pub mod RoundTrip
