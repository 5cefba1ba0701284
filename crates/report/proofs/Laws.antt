pub mod Changes
pub mod History
pub mod Names
pub mod Part
pub mod Put
pub mod Text
