-- the promise: a store over a log as its callers see it, how it is opened, what a commit leaves
pub mod Views
pub mod Opens
pub mod Commits
-- what a store keeps of itself
pub mod Inner
