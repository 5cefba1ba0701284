pub mod Laws
pub mod Internal
pub mod Head
