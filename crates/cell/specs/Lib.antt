pub mod Cell
pub mod Hierarchy
pub mod Line
pub mod Neighbour
