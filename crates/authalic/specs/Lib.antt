pub mod Authalic
pub mod Computed
pub mod Internal
pub mod Sums
