pub mod Code
pub mod Cut
pub mod Recording
pub mod Setting
