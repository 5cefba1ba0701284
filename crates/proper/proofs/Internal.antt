pub mod Wholes
pub mod Largest
