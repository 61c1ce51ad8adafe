pub mod Once
pub mod Printed
