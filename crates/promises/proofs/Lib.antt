pub mod Answering
pub mod Decided
pub mod Promises
