pub mod Find
pub mod Give
pub mod Lack
pub mod Mark
pub mod Marking
pub mod Marks
pub mod Note
pub mod Same
