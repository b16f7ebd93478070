-- What private functions of `layout` go by.
pub mod Sized
pub mod Cleared
