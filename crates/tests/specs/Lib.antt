pub mod Elf
pub mod Files
pub mod Admission
pub mod Options
pub mod Ranges
pub mod Words
