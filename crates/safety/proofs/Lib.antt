pub mod Dominance
pub mod Removal
pub mod Hierarchy
pub mod Goodness
