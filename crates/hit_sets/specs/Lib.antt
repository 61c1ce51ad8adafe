-- the names that changed a set, oldest first, as the chain that contracts see
pub mod Past
-- what a hit set contains, by the names whose insertion changed it
pub mod Sets
-- what the private parts of a hit set promise
pub mod Steps
-- what a hit set keeps, by its kind
pub mod Marks
