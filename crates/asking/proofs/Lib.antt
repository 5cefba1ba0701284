pub mod Internal
pub mod Laws
pub mod Answers
pub mod Counts
