pub mod Ask
pub mod Internal
pub mod Settle
