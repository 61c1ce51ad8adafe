pub mod ReadOps
pub mod ReadLines
pub mod ReadTexts
pub mod Unique
pub mod Widths
pub mod Rereading
