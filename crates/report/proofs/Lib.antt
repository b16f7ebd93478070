-- Laws that belong to no one function, and a worked example.
mod RowWords
mod Sizes
pub mod Building
mod Counting
mod Reported
pub mod Examples
