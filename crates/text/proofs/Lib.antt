pub mod Lines
pub mod Counts
pub mod Beginning
