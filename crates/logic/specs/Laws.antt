pub mod Bools
pub mod Lists
pub mod Longest
pub mod Order
pub mod Refusal
pub mod Stores
pub mod Table
pub mod Answer
