pub mod Sums
pub mod Grammar
pub mod Cover
