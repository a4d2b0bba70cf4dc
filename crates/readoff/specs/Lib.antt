pub mod Bytes
pub mod Written
