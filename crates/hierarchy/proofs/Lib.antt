pub mod Joined
pub mod Laws
pub mod Accepted
pub mod Answers
pub mod Numbers
