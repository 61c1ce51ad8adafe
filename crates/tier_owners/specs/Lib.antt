pub mod Calls
pub mod Moving
pub mod Runs
pub mod Reaching
pub mod QuietMoves
pub mod Aging
