pub mod Classes
pub mod Fronts
pub mod Lex
pub mod Names
pub mod Places
pub mod Reading
pub mod Splitting
