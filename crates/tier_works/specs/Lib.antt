pub mod Settings
pub mod Works
pub mod Waits
pub mod ProxyReads
pub mod Writes
pub mod Promotions
pub mod Flushes
pub mod Joins
