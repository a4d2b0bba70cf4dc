pub mod Execution
pub mod Formed
pub mod Laid
pub mod Refusals
pub mod Says
pub mod View
pub mod Words
