pub mod Lines
pub mod Listings
pub mod Telling
pub mod Texts
