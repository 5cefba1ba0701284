pub mod End
pub mod Parts
pub mod Place
pub mod RangeLaws
