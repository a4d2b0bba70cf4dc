pub mod Breaking
pub mod Judging
pub mod Narrowings
pub mod Promises
pub mod Reversing
pub mod Sequencing
pub mod Stating
pub mod Values
