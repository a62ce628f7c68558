pub mod Choices
pub mod Lines
pub mod Outcomes
pub mod Passes
pub mod Rows
pub mod Runs
pub mod Table
pub mod Told
