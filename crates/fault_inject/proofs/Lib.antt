pub mod Closing
pub mod Changing
pub mod Straying
pub mod Steadiness
pub mod Sparing
pub mod Tracing
pub mod Slipping
