pub mod Earliest
pub mod Headings
pub mod Instructions
pub mod Programs
pub mod Sourcing
pub mod Unions
pub mod Walking
