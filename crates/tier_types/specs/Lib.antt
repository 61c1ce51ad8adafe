pub mod Flights
pub mod Serving
