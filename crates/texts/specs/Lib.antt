pub mod Read
pub mod Printed
pub mod Names
