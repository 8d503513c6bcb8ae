pub mod One
pub mod Cut
pub mod Joined
pub mod FarTest
pub mod ListedRuns
pub mod ListedChanges
pub mod KnownFiles
pub mod LoopExample
pub mod LoopKept
mod LoopCaught
mod LoopClean
pub mod LeanBlocks
pub mod LeanExample
mod LeanSlips
pub mod StoreExample
pub mod StoreKept
pub mod StoreCaught
mod StoreLean
