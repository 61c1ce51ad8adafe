-- the promise of a store: what its calls answer and leave, what is known of it, its room, its
-- limits
pub mod Calls
pub mod Views
pub mod Rooms
pub mod Limits
-- maps and their changes
pub mod Tables
-- coded forms
pub mod Codes
