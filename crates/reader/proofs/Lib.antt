pub mod Answers
pub mod Firsts
pub mod Given
pub mod Lent
pub mod Passed
pub mod Spaced
pub mod Walking
pub mod Walks
