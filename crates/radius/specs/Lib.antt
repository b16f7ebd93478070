-- The definitions that the contracts of `radius` cite.
pub mod Radius
