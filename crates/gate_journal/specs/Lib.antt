-- what a range of bytes means as a journal
pub mod Journals
-- what stands of a journal on a disk that may stop
pub mod Stands
-- how the calls end
pub mod Calls
-- the steps of which the calls are made
pub mod Steps
