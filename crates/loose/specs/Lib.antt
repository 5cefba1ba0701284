pub mod Internal
pub mod Look
pub mod LooseScan
pub mod LooseText
