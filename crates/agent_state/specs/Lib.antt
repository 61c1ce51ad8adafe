-- how the modes of the agent follow from what a cache holds
pub mod Modes
-- what a list of records holds
pub mod Sums
-- what follows for the agent, in plain words
pub mod Laws
