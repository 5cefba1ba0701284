pub mod Compared
pub mod Next
