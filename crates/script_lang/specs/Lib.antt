-- the first words of lines and of sub-operations
pub mod Verbs
-- how a line is spelled
pub mod Spelling
-- the spelling of a line, piece by piece
pub mod Printing
-- where a line stands: behind which moment, and in which block
pub mod Contexts
-- what the words of a line say, or the first cause from the left why they say nothing
pub mod Reading
-- what a script is, and the fault of a text that is none
pub mod Scripts
-- what the reader's steps promise each other
pub mod Outcomes
