pub mod Strings
pub mod Sound
pub mod Known
pub mod Extents
