pub mod Chains
pub mod Laws
pub mod Checks
pub mod Kept
pub mod After
pub mod Meaning
pub mod Opened
