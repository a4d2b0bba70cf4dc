pub mod Formings
pub mod Lays
pub mod Lengths
pub mod Lockings
pub mod Places
pub mod Reading
pub mod Refusing
pub mod Viewing
