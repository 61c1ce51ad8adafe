pub mod Found
pub mod Committing
