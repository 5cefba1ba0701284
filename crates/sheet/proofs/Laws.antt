pub mod Bytes
pub mod Numbers
pub mod Parts
pub mod Sheet
pub mod Stands
