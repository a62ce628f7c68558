pub mod Bounds
pub mod Cuts
pub mod Hyphenations
pub mod Laws
pub mod Progresses
pub mod Rebuilds
pub mod Words
