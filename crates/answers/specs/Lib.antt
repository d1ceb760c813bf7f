pub mod Answers
pub mod Carried
