pub mod Entries
pub mod Outcomes
pub mod Steps
