pub mod Lines
pub mod Words
pub mod Ranges
pub mod Whole
pub mod RowBytes
pub mod Texts
