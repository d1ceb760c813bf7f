pub mod Joined
pub mod Relations
pub mod Lists
pub mod Loops
pub mod Keep
pub mod Converse
