pub mod Each
pub mod Laws
pub mod Bounds
pub mod Filled
pub mod Right
