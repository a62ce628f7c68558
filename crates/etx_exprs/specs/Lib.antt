pub mod Constants
pub mod Feeding
pub mod Says
pub mod Trees
pub mod Units
pub mod Values
