pub mod Found
pub mod Epochs
pub mod Standing
pub mod Going
