-- the promise: why a pair of pools is refused, and what two stores hold
pub mod Causes
pub mod Surveys
-- what the private steps promise
pub mod Places
pub mod Steps
pub mod Runs
