pub mod Length
pub mod Thinning
