pub mod Decides
pub mod Dictionary
pub mod Evidence
pub mod Least
pub mod Relation
pub mod Rule
pub mod Shown
pub mod Walk
