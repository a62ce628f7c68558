pub mod Histories
pub mod Laws
pub mod Rows
pub mod Slots
pub mod Tables
