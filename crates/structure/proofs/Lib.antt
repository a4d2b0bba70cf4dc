pub mod Cases
pub mod Examining
pub mod Judging
pub mod Locked
pub mod Pairs
pub mod Partners
pub mod Passing
