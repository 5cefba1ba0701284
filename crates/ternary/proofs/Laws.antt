pub mod Digits
pub mod Powers
pub mod Threes
pub mod Weave
