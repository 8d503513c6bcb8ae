-- Both ways between words and text.
pub mod Numbers
pub mod Parts
pub mod Printed
pub mod Operands
pub mod Heads
pub mod Line
pub mod Sayings
pub mod Joined
pub mod Kept
pub mod Whole
pub mod Listed
