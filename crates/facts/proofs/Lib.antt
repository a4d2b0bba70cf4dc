pub mod Counting
pub mod Entering
pub mod Keeping
pub mod Listings
pub mod Placing
pub mod Slotting
pub mod Sorting
