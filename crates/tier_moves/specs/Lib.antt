-- choices of an outcome
pub mod Choices
-- what a client asks, and what the work on its name means
pub mod Asks
pub mod Stands
-- how a call ends, and the way of a name without a record
pub mod Endings
pub mod Ways
-- what comes of a client's call
pub mod Begins
