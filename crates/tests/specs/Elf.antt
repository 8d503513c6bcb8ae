-- ELF files for RISC-V: what is written, what is read of it, and what is true of each file that is read.
pub mod Written
pub mod Layout
pub mod FileRead
pub mod Sound
