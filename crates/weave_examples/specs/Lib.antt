pub mod Laws
pub mod Promise
pub mod Joined
pub mod FarTest
