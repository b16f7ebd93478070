-- Laws that belong to no one function, two series in one loop, and worked examples.
pub mod Laws
pub mod Zeros
pub mod TwoSeries
pub mod Examples
