pub mod Additions
pub mod Items
pub mod Moves
pub mod Penalties
pub mod Settings
pub mod Sortings
