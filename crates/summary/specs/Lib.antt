pub mod Gain
pub mod Internal
pub mod Summary
