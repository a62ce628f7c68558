pub mod Draws
pub mod Document
pub mod Font
