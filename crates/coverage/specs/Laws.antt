pub mod Asked
pub mod Names
pub mod Sheet
