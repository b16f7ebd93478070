-- What private functions of `table` go by.
pub mod Held
pub mod Lines
