pub mod Laws
pub mod Sign
