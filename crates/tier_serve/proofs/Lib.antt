pub mod Shapes
pub mod Bridging
pub mod Agreeing
pub mod UnreadSteps
pub mod InstallSteps
