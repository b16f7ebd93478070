-- The definitions that the contracts of `cap` cite.
pub mod Walks
pub mod Cap
pub mod Terms
