-- which records qualify for a flush or an eviction
pub mod Rules
-- what the steps of a pick promise each other
pub mod Steps
-- the pick: the first row that qualifies, in the cyclic order of names behind the cursor
pub mod Picks
-- the names that an agent may take, kept from step to step, and the pick among them
pub mod Indexes
-- what ties an index to the rows, and what follows
pub mod IndexLaws
