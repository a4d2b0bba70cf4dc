pub mod Part
pub mod Put
