-- the slots of a map: the keys that have a value, and the keys for whose value there is only room
pub mod Slots
-- a pool's map in memory as its callers see it
pub mod Pools
