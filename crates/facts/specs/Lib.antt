pub mod Facts
pub mod Lists
pub mod Sets
