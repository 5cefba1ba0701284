pub mod Heading
pub mod Look
pub mod Names
pub mod Place
pub mod Reading
pub mod Scan
pub mod Taken
