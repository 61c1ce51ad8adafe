-- what unfinished work on a name holds up
pub mod Busy
-- how standing work changes
pub mod Changes
-- what is left of unfinished work when a call ends
pub mod Ends
-- the index from numbers to names, and how it changes
pub mod Indexes
-- how work comes to a name
pub mod Joins
-- what the end of a call and a taking over leave, in the words of the protocol
pub mod Laws
-- the numbers of unfinished work: of its operations, and of the calls that wait for it
pub mod Numbers
