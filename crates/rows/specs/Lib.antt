pub mod Members
pub mod Table
