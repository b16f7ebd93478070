-- The definitions that the contracts of `sweep` cite; `private` holds what private functions go by.
pub mod Sweep
pub mod private
