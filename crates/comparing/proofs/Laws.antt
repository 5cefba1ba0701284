pub mod Answer
pub mod Compare
pub mod Texts
