-- What is outside the program, before and after.
pub mod Outside
-- How a text is put.
pub mod Putting
-- What the words ask for.
pub mod Words
-- How each job ends, but for the carrying out of a script.
pub mod Jobs
