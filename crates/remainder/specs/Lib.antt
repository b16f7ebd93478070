-- The definitions that the contracts of `remainder` cite; `private` holds what private functions go by.
pub mod Remainder
pub mod private
