pub mod AskNodes
pub mod CodeOrder
pub mod Reach
