pub mod Nucleus
pub mod Range
pub mod Seam
