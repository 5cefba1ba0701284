pub mod Digits
pub mod Internal
pub mod Threes
pub mod Weave
