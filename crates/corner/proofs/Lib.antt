pub mod Internal
pub mod Facts
pub mod Laws
pub mod Answers
pub mod Fill
