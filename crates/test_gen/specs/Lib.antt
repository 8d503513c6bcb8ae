pub mod Code
pub mod Generated
pub mod Ends
pub mod Outputs
pub mod Random
