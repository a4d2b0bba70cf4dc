pub mod Digs
pub mod Fills
pub mod Layers
pub mod Reaches
pub mod Searches
pub mod Unique
