pub mod Formats
pub mod Rows
