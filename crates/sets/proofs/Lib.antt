pub mod Tests
pub mod Digits
pub mod Quantifiers
pub mod Builders
pub mod Loops
pub mod Members
