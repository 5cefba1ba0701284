pub mod Compare
pub mod Internal
pub mod Shared
