pub mod Conditionals
