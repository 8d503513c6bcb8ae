-- Which bytes are an ELF file that is read, and why others are refused.
pub mod Header
pub mod Fields
pub mod Rules
pub mod Refusals
pub mod File
