-- the disk: which of its calls work, and what each leaves
pub mod Memory
-- what a restart leaves of bytes that are not settled
pub mod Picks
-- a disk that tells nothing
pub mod Fog
-- the steps of which the calls are made
pub mod Steps
