pub mod Commits
pub mod Opens
pub mod Reopens
pub mod Spelled
