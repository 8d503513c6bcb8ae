pub mod Astray
pub mod Closed
pub mod Counted
pub mod Touched
pub mod Slipped
