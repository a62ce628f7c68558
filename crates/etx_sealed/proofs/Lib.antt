pub mod Breaking
pub mod Ending
pub mod Nesting
pub mod Placing
pub mod Shaping
pub mod Skipping
pub mod Summing
pub mod Walking
