pub mod Name
pub mod Order
