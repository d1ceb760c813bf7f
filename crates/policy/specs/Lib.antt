pub mod Build
pub mod Outcome
pub mod Change
pub mod Question
pub mod Good
