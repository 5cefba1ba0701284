pub mod Internal
pub mod Parts
pub mod Sheet
pub mod Verdict
