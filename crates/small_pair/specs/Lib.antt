-- what each step is
pub mod Steps
-- the coded form of a pair
pub mod Views
