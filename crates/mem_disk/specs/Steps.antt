pub mod Moments
pub mod Choosing
