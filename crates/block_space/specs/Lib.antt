-- why blocks are not taken
pub mod Faults
-- lists of block numbers in rising order
pub mod Numbers
-- what contracts see of free blocks
pub mod Views
