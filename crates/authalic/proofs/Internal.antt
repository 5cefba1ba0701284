pub mod SumLaws
pub mod AnswerLaws
