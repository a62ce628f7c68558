pub mod Codes
pub mod Letters
