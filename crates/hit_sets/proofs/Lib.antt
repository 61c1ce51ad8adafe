pub mod Pushed
pub mod Words
pub mod Filters
pub mod Laws
