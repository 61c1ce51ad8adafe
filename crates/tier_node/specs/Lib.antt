-- what a reply is about
pub mod Replies
-- what a call is told that cannot go on
pub mod Tells
-- what a step of a start makes of a group
pub mod Starting
-- whom a Fence keeps, and what they are told
pub mod Keeping
-- how a call goes on
pub mod Advancing
-- what an event makes of a group
pub mod Steps
-- lists of events
pub mod Runs
