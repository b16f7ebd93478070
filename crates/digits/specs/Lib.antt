-- The definitions that the contracts of `digits` cite.
pub mod Digits
pub mod Laid
