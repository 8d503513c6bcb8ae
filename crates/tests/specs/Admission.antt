-- Which tests are admitted, and where their code, their data and their leaders are.
pub mod Terms
pub mod Places
pub mod Rules
pub mod Refusals
pub mod Ends
pub mod CodeWords
pub mod DataRanges
pub mod Test
pub mod Reached
pub mod Leaders
