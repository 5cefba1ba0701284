pub mod Become
pub mod Edit
pub mod EditLaws
pub mod Find
pub mod Fit
pub mod FitLaws
pub mod Grow
pub mod GrowLaws
