pub mod Internal
pub mod Metres
