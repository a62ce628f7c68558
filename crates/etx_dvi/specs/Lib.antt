pub mod Commands
pub mod Kept
pub mod Numbers
pub mod Reading
pub mod Tail
