pub mod Weights
pub mod Later
