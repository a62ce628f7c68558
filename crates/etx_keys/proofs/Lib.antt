pub mod Counting
pub mod FamilyNumbers
pub mod KeyNumbers
pub mod KindNumbers
pub mod Numbering
pub mod SingleNumbers
