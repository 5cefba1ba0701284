pub mod Answer
pub mod Changes
pub mod History
pub mod Lines
pub mod Names
pub mod Put
