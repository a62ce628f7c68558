pub mod Breaks
pub mod Lines
pub mod Paragraphs
pub mod Shapes
pub mod Stops
pub mod Sums
pub mod Walks
