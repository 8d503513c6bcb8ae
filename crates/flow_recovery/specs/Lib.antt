pub mod Sets
pub mod Found
pub mod Words
pub mod Leaders
