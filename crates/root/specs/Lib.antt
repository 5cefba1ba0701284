pub mod Compared
pub mod Floor
pub mod Internal
pub mod Laws
pub mod Part
