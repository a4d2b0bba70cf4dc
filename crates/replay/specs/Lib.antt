pub mod Known
pub mod Replayed
