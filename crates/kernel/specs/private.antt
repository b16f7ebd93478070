-- What private functions of `kernel` go by.
pub mod Rows
