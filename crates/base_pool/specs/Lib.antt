-- the promise: a base as its callers see it, and what its calls do
pub mod Views
pub mod Serves
pub mod Opens
-- what follows from it
pub mod Laws
-- what the private steps promise
pub mod Steps
