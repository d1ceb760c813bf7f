pub mod Order
pub mod Effects
pub mod Rows
