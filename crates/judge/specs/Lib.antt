pub mod Checked
pub mod Later
pub mod Ordered
