mod Counting
pub mod Joining
pub mod Laying
pub mod Linkable
mod Places
mod Reach
pub mod RoleRows
mod Rows
mod Words
