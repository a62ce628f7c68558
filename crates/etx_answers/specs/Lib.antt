pub mod Answers
pub mod Meanings
pub mod Printing
pub mod Reads
pub mod Showing
