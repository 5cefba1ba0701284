pub mod Internal
pub mod Laws
pub mod Answers
pub mod Cells
pub mod Children
pub mod Steps
pub mod Texts
