pub mod High
pub mod Laws
pub mod Value
