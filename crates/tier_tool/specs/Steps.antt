pub mod Pools
pub mod Serving
pub mod Telling
pub mod Opening
