pub mod Districts
pub mod Question
