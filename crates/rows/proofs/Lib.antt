pub mod Bits
pub mod Copies
pub mod Filters
pub mod Members
pub mod Table
pub mod Seeks
pub mod Spreads
