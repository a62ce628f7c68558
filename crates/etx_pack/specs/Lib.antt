pub mod Fits
pub mod Packs
pub mod Reaches
pub mod Spacings
pub mod Sums
pub mod Walks
