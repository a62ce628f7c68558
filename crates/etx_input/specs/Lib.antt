pub mod Files
pub mod Gifts
pub mod Levels
pub mod Lists
pub mod Marks
pub mod Runs
pub mod Waiting
