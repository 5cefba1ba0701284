pub mod Laws
pub mod Names
pub mod Own
pub mod Printed
pub mod Rescued
