pub mod Around
pub mod Box
pub mod Frame
pub mod Order
