pub mod Bytes
pub mod Form
pub mod Seen
pub mod Place
pub mod Results
pub mod Right
pub mod Steps
pub mod Whole
