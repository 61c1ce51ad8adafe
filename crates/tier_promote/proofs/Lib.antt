mod Flies
mod Feeds
