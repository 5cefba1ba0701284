pub mod Choice
pub mod Laws
pub mod Lent
pub mod Lists
pub mod Longest
pub mod Refusal
pub mod Rise
pub mod Table
