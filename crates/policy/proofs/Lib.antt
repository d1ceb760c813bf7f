pub mod Laws
pub mod Rows
pub mod Outcomes
pub mod Changes
pub mod FirstLaws
