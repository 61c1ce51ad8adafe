mod Flags
mod Passing
mod Reading
mod Tool
