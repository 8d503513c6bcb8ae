pub mod Segments
pub mod Access
pub mod Overlap
pub mod Pages
pub mod Fixed
