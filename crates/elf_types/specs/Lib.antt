pub mod Abi
pub mod Bytes
pub mod Segment
pub mod Section
pub mod Symbol
pub mod Overlap
