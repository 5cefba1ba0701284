pub mod History
pub mod Log
pub mod Settings
pub mod Valid
