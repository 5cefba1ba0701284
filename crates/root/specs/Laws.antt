pub mod Floor
pub mod Part
pub mod Plain
pub mod Square
