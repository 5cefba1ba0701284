pub mod Alike
pub mod Bare
pub mod Count
pub mod Gather
pub mod Long
