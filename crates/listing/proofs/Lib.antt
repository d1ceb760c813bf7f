pub mod Sifted
pub mod Laws
pub mod Entries
pub mod Promised
