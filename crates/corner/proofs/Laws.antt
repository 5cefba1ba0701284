pub mod Corner
pub mod List
