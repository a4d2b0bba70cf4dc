pub mod Examined
pub mod Held
pub mod Structure
