pub mod Keys
pub mod Epochs
pub mod Found
pub mod Entries
pub mod Bases
pub mod Leaving
pub mod Caches
