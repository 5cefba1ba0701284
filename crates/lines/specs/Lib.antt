pub mod Find
pub mod Fold
pub mod Laws
pub mod Lines
pub mod Next
