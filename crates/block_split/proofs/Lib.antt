pub mod RunLaws
pub mod PieceCounts
pub mod PieceLengths
pub mod BuiltLaws
pub mod BodyLaws
pub mod BlockLaws
pub mod WithinLaws
