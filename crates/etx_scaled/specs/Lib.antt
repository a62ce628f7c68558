pub mod Badness
pub mod Decimal
pub mod Division
pub mod Reading
pub mod Rounding
