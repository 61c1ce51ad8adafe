pub mod Rows
pub mod AnswerKinds
pub mod Wrongs
