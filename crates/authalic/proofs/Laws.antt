pub mod Range
pub mod Authalic
pub mod Sums
