pub mod Entries
pub mod Places
pub mod Shelves
pub mod Values
pub mod Waiting
pub mod Wired
pub mod Owned
pub mod Counted
