pub mod Changes
pub mod Internal
pub mod Proper
pub mod Thin
pub mod Wholes
