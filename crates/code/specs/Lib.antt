pub mod Code
pub mod Finest
pub mod Inside
pub mod Number
