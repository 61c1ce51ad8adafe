-- runs of steps, and their laws
pub mod Runs
