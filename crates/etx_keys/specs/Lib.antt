pub mod Bounds
pub mod Classes
pub mod Families
pub mod Keys
pub mod Kinds
pub mod Parameters
pub mod Singles
