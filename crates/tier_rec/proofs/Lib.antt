pub mod Totals
pub mod Cleaning
