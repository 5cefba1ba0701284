pub mod LetterWalk
pub mod Past
pub mod Walk
