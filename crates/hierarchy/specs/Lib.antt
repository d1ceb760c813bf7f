pub mod Rules
pub mod Ground
pub mod Kinds
