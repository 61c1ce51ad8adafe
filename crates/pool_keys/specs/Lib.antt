-- keys and values, and the maps of the two pools
pub mod Keys
pub mod Values
pub mod Maps
pub mod Reads
-- what a stop may leave of a store
pub mod Left
-- what follows
pub mod Laws
