pub mod EntryLaws
pub mod AskedLaws
