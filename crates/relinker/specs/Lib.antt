pub mod Sink
pub mod Link
pub mod Counted
pub mod Laid
pub mod Joined
