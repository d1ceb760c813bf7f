pub mod Counts
pub mod Lengths
pub mod Most
pub mod Opened
