pub mod Behind
pub mod Statuses
