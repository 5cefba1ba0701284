pub mod Found
pub mod Portions
