pub mod Laws
pub mod Track
