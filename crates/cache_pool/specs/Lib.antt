-- the promise: what is read of the cache, and what a commit puts there
pub mod Reads
pub mod Puts
-- what a private step promises
pub mod Steps
