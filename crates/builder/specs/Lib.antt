-- The definitions that the contracts of `builder` cite; `private` holds what private functions go by.
pub mod Rows
pub mod Build
pub mod Lent
pub mod private
