pub mod Lends
pub mod Undoing
