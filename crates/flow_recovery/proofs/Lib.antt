pub mod SetLaws
pub mod FoundLaws
pub mod OrderLaws
pub mod CodeLaws
pub mod LeaderLaws
pub mod ReachLaws
pub mod ReachExample
