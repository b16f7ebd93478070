-- Laws that belong to no one function, and worked examples.
pub mod Valid
pub mod Examples
