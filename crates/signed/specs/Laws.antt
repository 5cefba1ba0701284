pub mod Sign
pub mod Times
