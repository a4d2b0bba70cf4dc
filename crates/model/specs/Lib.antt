pub mod Agree
pub mod Hol
pub mod Model
pub mod Rules
pub mod Says
pub mod Validity
pub mod ViewAlone
