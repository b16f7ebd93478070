-- The definitions that the contracts and laws of `card` cite.
pub mod Words
pub mod Card
pub mod Bytes
pub mod private
