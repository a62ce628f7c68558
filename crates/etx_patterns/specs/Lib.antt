pub mod Tree
pub mod Links
pub mod Shapes
pub mod Tables
pub mod Kept
pub mod Scores
