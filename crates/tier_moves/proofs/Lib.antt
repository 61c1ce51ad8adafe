pub mod OneSteps
pub mod NewCalls
pub mod FaultsTold
pub mod Untouched
pub mod ServedCalls
pub mod Away
pub mod FullTold
pub mod FullModes
