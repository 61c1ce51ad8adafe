pub mod Needed
pub mod Making
