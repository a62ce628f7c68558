pub mod Ends
pub mod Lines
pub mod Listed
pub mod Marks
pub mod Runs
pub mod Stack
pub mod Taking
pub mod Tops
