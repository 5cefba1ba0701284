pub mod List
pub mod Mixed
pub mod Profile
