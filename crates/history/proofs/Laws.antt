pub mod History
pub mod Run
pub mod Settings
pub mod Valid
pub mod WrongKeepers
