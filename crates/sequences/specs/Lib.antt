pub mod ReadOff
pub mod Sequence
pub mod Sequential
