pub mod Listing
pub mod Sites
