pub mod Outside
pub mod Checked
