pub mod Laws
pub mod Batches
pub mod Fifteen
