pub mod Executed
