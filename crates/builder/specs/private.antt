-- What private functions of this crate and of the crates above it go by.
pub mod Room
pub mod Runs
