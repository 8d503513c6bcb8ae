pub mod Listing
pub mod Homes
pub mod Addresses
pub mod Roles
pub mod WordTexts
