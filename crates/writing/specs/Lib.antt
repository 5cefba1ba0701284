pub mod Internal
pub mod Write
