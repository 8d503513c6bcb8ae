-- The printed texts.
pub mod Plan
pub mod Run
pub mod Slips
pub mod Errors
pub mod Usage
pub mod Campaign
