-- the command of the program, and what words of the command line ask for
pub mod Words
-- what a parse of taken words gives, for the private steps
pub mod Steps
