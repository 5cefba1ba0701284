pub mod Add
pub mod InMind
