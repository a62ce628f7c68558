pub mod Searching
pub mod Sorted
pub mod Covers
pub mod Laws
pub mod Named
