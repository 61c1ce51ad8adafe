pub mod Calls
pub mod Chosen
pub mod Pushed
pub mod Settling
