pub mod Fold
pub mod Lines
