pub mod Chain
pub mod Errors
pub mod Fault
pub mod Going
pub mod Meaning
pub mod Texts
pub mod Words
