pub mod Dimensions
pub mod Expressions
pub mod Internals
pub mod Numbers
pub mod Outers
pub mod Taking
pub mod Words
