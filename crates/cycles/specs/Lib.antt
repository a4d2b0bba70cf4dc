pub mod Search
pub mod Showing
