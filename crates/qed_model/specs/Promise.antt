-- What is promised of the runs of an output.
pub mod Kept
pub mod OwnSteps
pub mod Landed
pub mod Closed
pub mod Changed
pub mod Caught
pub mod Clean
pub mod InStep
pub mod Faults
