pub mod CallLaws
pub mod Falling
pub mod Gotten
pub mod Letters
pub mod Watching
