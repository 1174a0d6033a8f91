pub mod Store
pub mod Moved
pub mod Fold
pub mod Shifted
pub mod Lengths
