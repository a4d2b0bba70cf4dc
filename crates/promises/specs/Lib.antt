pub mod Decided
pub mod Promises
