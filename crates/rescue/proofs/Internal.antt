pub mod Give
pub mod Joint
pub mod Marking
pub mod Same
