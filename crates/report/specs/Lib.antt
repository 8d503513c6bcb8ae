pub mod Admission
pub mod Plan
pub mod Tally
pub mod SlipTally
pub mod Generated
pub mod Assembly
pub mod World
pub mod Help
