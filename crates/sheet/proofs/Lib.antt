pub mod Laws
pub mod Answers
pub mod Beside
pub mod Bytes
pub mod Records
pub mod Steps
