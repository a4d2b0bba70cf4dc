pub mod Arrangements
pub mod Unique
