-- What private functions of `sweep` go by.
pub mod Cell
