pub mod Going
pub mod Tables
pub mod Turns
