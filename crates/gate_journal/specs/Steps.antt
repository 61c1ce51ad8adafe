-- how a record is added and a gate closed, and what a stop leaves meanwhile
pub mod Writing
-- how the record at a gate is read
pub mod Reading
-- what a record has behind its gate
pub mod Bodies
