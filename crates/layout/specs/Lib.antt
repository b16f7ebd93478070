-- The definitions that the contracts and laws of `layout` cite; `private` holds what private functions go by.
pub mod Entries
pub mod Place
pub mod Rows
pub mod Written
pub mod Map
pub mod private
