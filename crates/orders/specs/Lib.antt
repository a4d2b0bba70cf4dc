pub mod Groups
pub mod Programs
pub mod Walks
