pub mod Defining
pub mod Drawing
pub mod Keeping
pub mod Marks
pub mod Paging
pub mod Setting
pub mod Shipping
