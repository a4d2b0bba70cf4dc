pub mod Faults
pub mod Scene
