pub mod Paging
pub mod Requesting
pub mod Idling
