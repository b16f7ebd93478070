-- The theorems that cover the tables.
pub mod Table
pub mod Grids
pub mod Equal
pub mod Lengths
