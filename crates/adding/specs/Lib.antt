pub mod Add
pub mod Internal
pub mod InMind
