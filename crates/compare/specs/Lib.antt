pub mod Loaded
pub mod Printed
