-- Laws that belong to no one function.
mod Bytes
mod Examples
pub mod Headers
pub mod Rows
pub mod Sections
