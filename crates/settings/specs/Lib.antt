pub mod Answered
pub mod Asked
pub mod Files
