pub mod Kinds
pub mod Requests
pub mod Numbers
pub mod Reached
pub mod Examples
pub mod Cases
