-- Laws that belong to no one function, and worked examples.
mod Counts
pub mod Digits
pub mod Laying
pub mod Examples
