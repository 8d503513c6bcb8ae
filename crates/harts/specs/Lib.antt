pub mod Harts
pub mod HartSteps
pub mod Together
pub mod Starts
pub mod Shared
pub mod Codes
pub mod Played
pub mod Standing
