-- what follows for a value that a text does not name
pub mod Laws
-- what the bytes of the settings say: pool values, or what is wrong
pub mod Settings
-- what the private steps of the reading promise
pub mod Steps
