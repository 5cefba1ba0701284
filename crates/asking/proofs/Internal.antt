pub mod CountNodes
