pub mod Laws
pub mod Answers
pub mod Blocks
pub mod Filling
pub mod Raising
