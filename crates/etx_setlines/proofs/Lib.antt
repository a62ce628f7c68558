pub mod Adding
pub mod Distances
pub mod Nesting
pub mod Parted
