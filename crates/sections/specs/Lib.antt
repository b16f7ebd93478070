-- The definitions that the contracts and laws of `sections` cite.
pub mod Sections
