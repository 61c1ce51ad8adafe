pub mod DiskImages
pub mod Moments
pub mod DiskMoments
pub mod Streams
