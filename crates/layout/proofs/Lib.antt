-- Laws that belong to no one function.
pub mod Entries
pub mod Places
pub mod Rows
pub mod Blocks
pub mod Written
mod Cleared
mod Examples
pub mod Maps
