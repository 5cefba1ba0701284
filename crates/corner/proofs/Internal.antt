pub mod Codes
pub mod Across
