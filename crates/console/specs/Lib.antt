pub mod Arguments
pub mod Beside
pub mod History
pub mod Input
pub mod Names
pub mod Room
