pub mod Form
pub mod Number
pub mod Read
