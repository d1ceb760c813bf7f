pub mod Versions
pub mod Department
