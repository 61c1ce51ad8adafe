-- What a run is answered from: one plain store.
pub mod Answers
pub mod Plain
-- What a line asks, and which lines are carried out so far.
pub mod Tasks
-- What a pool's map and its room say of the plain store.
pub mod Bases
pub mod Costs
-- What lines are answered, one after another, and how a run of them ends.
pub mod Lines
-- How a run on the base ends.
pub mod Runs
-- How each job ends, and the whole: `Ran`.
pub mod Jobs
-- What follows of the answers, in plain words.
pub mod Laws
-- What private steps promise each other.
pub mod Steps
