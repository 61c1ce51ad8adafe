pub mod Group
pub mod Promises
pub mod Steps
pub mod Laws
pub mod Ends
pub mod Seen
pub mod Rising
