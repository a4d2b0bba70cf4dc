pub mod Cycles
pub mod Dictionaries
pub mod Judgements
pub mod Numbers
pub mod Rules
pub mod Searches
pub mod Tests
pub mod Walks
