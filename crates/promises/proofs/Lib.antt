pub mod Demand1
pub mod Demand2
pub mod Others
pub mod Files
pub mod Demand3
pub mod Department
pub mod Useless
pub mod Sentences
