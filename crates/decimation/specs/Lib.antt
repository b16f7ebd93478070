-- The definitions that the contracts of `decimation` cite.
pub mod Decimation
