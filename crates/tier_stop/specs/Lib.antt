-- which step of a start is needed
pub mod Needs
-- what a start comes to
pub mod Starts
-- what is proved of it
pub mod Laws
