pub mod Laws
pub mod Name
pub mod Order
