pub mod Tests
pub mod Sets
