pub mod Chain
pub mod Rounding
pub mod Scale
