pub mod Chunks
pub mod Gathers
pub mod Steps
pub mod Cuts
