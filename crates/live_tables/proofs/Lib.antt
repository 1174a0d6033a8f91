pub mod Rowwise
