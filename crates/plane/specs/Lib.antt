pub mod Internal
pub mod Plane
