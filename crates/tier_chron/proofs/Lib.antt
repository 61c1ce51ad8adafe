pub mod Closing
pub mod Openings
pub mod Lists
pub mod Places
pub mod Growing
pub mod Ids
pub mod Staying
pub mod Calls
