pub mod Check
pub mod Internal
pub mod Laws
