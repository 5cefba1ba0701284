pub mod Fix
pub mod Internal
