-- counts of calls and faults, and when a fault may be answered
pub mod Causes
-- a clock of moments, for disks and stores alike
pub mod Moments
-- a disk at one moment, what a stop may leave of it, and what its calls do
pub mod Disk
-- the clock of a disk, and what its calls leave from moment to moment
pub mod DiskMoments
-- what a source has left and a sink holds
pub mod Streams
