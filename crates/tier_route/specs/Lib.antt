-- the table of the modes, a row a case
pub mod Routes
-- what follows for routes, in plain words
pub mod Laws
