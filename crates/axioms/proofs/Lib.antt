pub mod Initials
pub mod Overwrites
pub mod Pairings
pub mod Placings
pub mod Sorts
pub mod Tears
