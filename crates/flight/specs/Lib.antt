pub mod Flight
pub mod Recording
pub mod Setting
