-- what a group is made of, and what always holds of it
pub mod Parts
pub mod Apart
pub mod Keeps
-- how a call ends
pub mod Ends
-- what is read, and how a request acts
pub mod Reads
pub mod Acts
-- how a group is attached
pub mod Founds
-- how calls are answered
pub mod Turns
pub mod Writes
pub mod Serves
-- stops and openings
pub mod Stops
pub mod Opens
pub mod Looks
-- what a step of it is
pub mod Steps
-- how a message is delivered to the base
pub mod Stakes
pub mod Served
pub mod Deliveries
-- how a group is started
pub mod Raises
pub mod Fences
-- how a write request goes to the base, and lands
pub mod Proxies
pub mod Lands
pub mod Lacks
-- how a name is promoted
pub mod Promotes
-- how a call is turned away
pub mod Blocks
-- when a call is refused
pub mod Held
pub mod Callings
