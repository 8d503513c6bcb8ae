pub mod LastZero
pub mod ExtentLaws
pub mod NextZero
