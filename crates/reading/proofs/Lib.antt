pub mod Laws
pub mod Right
pub mod Bounds
pub mod Theorems
pub mod Opened
pub mod Turns
