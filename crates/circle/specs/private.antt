-- What private functions of `circle` go by.
pub mod Ready
