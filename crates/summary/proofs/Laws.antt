pub mod Answer
pub mod Counters
pub mod District
pub mod Gain
pub mod Summary
