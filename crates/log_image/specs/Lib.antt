-- what the bytes of a disk mean as a log
pub mod Images
-- what the first bytes of a disk say
pub mod Fronts
-- what stands of a log on a disk that may stop
pub mod Standing
-- how the reading of a log ends
pub mod Calls
-- the steps of which looking, formatting and reading are made
pub mod Steps
