pub mod Inverse
pub mod Places
pub mod Fitting
