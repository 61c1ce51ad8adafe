-- how the first bytes of a disk are compared
pub mod Looking
-- what stands of a log that is being formatted
pub mod Formatting
-- how a map is made of the payloads of a journal
pub mod Rebuilding
