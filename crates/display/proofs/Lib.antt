-- Read Theorem: `display`; Numbers: `numbers_shown`.
mod Shown
mod Built
pub mod Theorem
pub mod Numbers
