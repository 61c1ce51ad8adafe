pub mod Ranks
pub mod Cyclic
pub mod Ties
pub mod Indexed
