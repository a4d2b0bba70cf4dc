pub mod Arrangement
pub mod Steps
