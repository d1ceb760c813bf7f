pub mod Laws
pub mod Decided
pub mod Numbers
pub mod Agreement
pub mod Keep
pub mod Promised
