pub mod LowBits
pub mod Inverse
pub mod FieldWords
