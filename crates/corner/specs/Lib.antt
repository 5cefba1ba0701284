pub mod Corner
pub mod Internal
pub mod List
