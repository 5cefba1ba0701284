pub mod Between
pub mod Bracket
