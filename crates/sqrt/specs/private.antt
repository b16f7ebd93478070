-- What private functions of `sqrt` go by.
pub mod Steps
