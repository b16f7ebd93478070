-- What private functions of `remainder` go by.
pub mod Units
