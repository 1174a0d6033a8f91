pub mod Simplify
