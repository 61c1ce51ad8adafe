pub mod Left
pub mod Messages
pub mod Numbered
pub mod Places
pub mod Waits
pub mod Wires
