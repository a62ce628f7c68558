pub mod Choosing
pub mod Searching
pub mod Standing
