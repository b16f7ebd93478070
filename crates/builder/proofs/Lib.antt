-- Laws that belong to no one function.
pub mod HandedRows
mod Laid
pub mod Builders
pub mod Kept
mod Calls
