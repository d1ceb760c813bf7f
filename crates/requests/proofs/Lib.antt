pub mod ByKind
pub mod Table
pub mod Decided
pub mod Safe
pub mod Cases
