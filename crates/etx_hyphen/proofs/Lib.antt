pub mod Founds
pub mod Made
pub mod Nested
pub mod Plain
pub mod Steps
