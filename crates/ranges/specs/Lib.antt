pub mod Ranges
pub mod Rows
pub mod After
pub mod Ranking
