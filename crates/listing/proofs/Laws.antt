pub mod List
pub mod Listed
